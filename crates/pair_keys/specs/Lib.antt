pub mod Ids
pub mod KeyParts
pub mod Missing
pub mod Keys
