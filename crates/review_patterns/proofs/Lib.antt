pub mod BracketLaws
pub mod ByteLaws
pub mod FrontLaws
pub mod PatternLaws
pub mod PlaceLaws
pub mod SpanLaws
