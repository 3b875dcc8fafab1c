pub mod MetLemmas
pub mod OutcomesLemmas
pub mod Pieces
pub mod PlacesLemmas
pub mod SurveyLemmas
pub mod TextsLemmas
