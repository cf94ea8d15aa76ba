mod TraceLaws
pub mod TrailLaws
mod Lists
mod NodeLaws
mod LayoutLaws
mod AliasLaws
mod RankLaws
mod SeatLaws
