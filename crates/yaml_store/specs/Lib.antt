pub mod StoreModel
pub mod StoreGrows
pub mod TagTexts
pub mod TextModel
pub mod StoreView
