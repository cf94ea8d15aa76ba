mod HintLaws
mod ScanLaws
