pub mod InboxLemmas
pub mod PosterLemmas
pub mod CallerLemmas
pub mod CountLemmas
