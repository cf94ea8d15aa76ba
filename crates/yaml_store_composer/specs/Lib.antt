pub mod PendingModel
pub mod BufferModel
pub mod KeeperModel
