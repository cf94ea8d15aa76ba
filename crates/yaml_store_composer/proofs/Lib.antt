pub mod PendingLaws
pub mod BufferLaws
pub mod DueLaws
pub mod KeeperLaws
