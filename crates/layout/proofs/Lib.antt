mod LayoutLemmas
mod PlaceLemmas
mod ProvidedLemmas
mod RegionLemmas
mod RoomLemmas
