mod MarkLaws
mod TextLaws
