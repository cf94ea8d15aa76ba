mod FramedLaws
mod PieceLaws
mod UnifiedLaws
