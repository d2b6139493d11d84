pub mod BadTag
pub mod Commands
pub mod DemandTwo
pub mod ImageEnd
pub mod NotTaken
pub mod SizeZero
