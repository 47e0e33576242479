pub mod FreeWordSeen
pub mod NodeIsFilled
pub mod NodeIsGivenBack
pub mod NodeIsTaken
pub mod RipeNodesStay
