use Rattle.std.proofs.Common.{◌≡◌, ◌++◌}
use Rattle.std.proofs.lemmas.List.Sorted.{Contains-permutation, IsPermutation-sym}
use Rattle.std.proofs.lemmas.List.Elements.{Contains-get_or}
use Rattle.buffer_cache.specs.HeldSectors.{marked_keys, marked_scratch}
use Rattle.buffer_cache.proofs.WriteBackLemmas.{marked_is_listed, listed_is_held}
use Rattle.buffer_cache.proofs.written_back.list_marked.Goals as goal

pub returns-clause-each : goal.returns-clause-each
returns-clause-each c s marked =
    let listed : c.list_scratch.new.ascending.items ≡ marked_keys c.args.held.now.recent.entries ++ marked_scratch c.args.held.now.scratch = rw (c.list_scratch.ensures.listed, c.list_recent.ensures.listed) in
    Contains-permutation c.list_scratch.new.ascending.items c.sort_unstable.new.self.items s c.sort_unstable.ensures.permutation (rw listed (marked_is_listed c.args.held.now s marked))

pub returns-clause-held : goal.returns-clause-held
returns-clause-held c k d low =
    let listed : c.list_scratch.new.ascending.items ≡ marked_keys c.args.held.now.recent.entries ++ marked_scratch c.args.held.now.scratch = rw (c.list_scratch.ensures.listed, c.list_recent.ensures.listed) in
    let back = IsPermutation-sym c.list_scratch.new.ascending.items c.sort_unstable.new.self.items c.sort_unstable.ensures.permutation in
    let has = Contains-permutation c.sort_unstable.new.self.items c.list_scratch.new.ascending.items _ back (Contains-get_or c.sort_unstable.new.self.items k d low) in
    listed_is_held c.args.held.now _ (rw listed at has)
