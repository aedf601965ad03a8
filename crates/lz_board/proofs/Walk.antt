pub mod WalkerLemma
pub mod GlanceAnswer
pub mod ListedSlot
pub mod ListedMore
pub mod ListAnswer
pub mod OneSlot
