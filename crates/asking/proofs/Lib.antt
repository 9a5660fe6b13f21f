pub mod PlanMeans
pub mod AskedMeans
pub mod PlanLaws
pub mod MergedTails
pub mod TailsAgain
pub mod AskLaws
