mod CommandLaws
mod RejectionLaws
mod GitLaws
mod RunLaws
mod MergeLaws
mod FolderLaws
