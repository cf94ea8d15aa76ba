pub mod NestedLaws
