pub mod MakesOrFails
pub mod CardsLeft
