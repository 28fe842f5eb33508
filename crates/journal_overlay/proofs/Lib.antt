mod SlotsLemmas
mod NodesLemmas
mod KeptLemmas
mod PlacesLemmas
mod IndexLemmas
mod Worked
