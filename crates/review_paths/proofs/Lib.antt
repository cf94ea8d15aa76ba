mod HighLaws
mod KeyLaws
mod LeadLaws
mod PasteLaws
mod SideLaws
mod StepLaws
mod UnsaidLaws
mod ValueLaws
