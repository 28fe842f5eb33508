use Rattle.std.proofs.Common.{rules, List, [], ◌∷◌, ◌++◌, sym, subst, ◌∙◌, ap}
use Rattle.sector_pool.specs.Run.{Piece}
use Rattle.journal_ring.specs.Runs.{bytes_of, FollowOn}
use Rattle.journal_ring.proofs.RunsLemmas.{FollowOn-last, bytes_of-last}
use Rattle.journal_ring.proofs.runs.joined.Goals as goal

pub join-requires : goal.join-requires
join-requires c =
    record { region = (FollowOn-last (c.pop_last.new.before.items ++ c.pop_last.new.behind.items) c.in-Some.front c.loop-front.all (subst (λ (l : List Piece). FollowOn (l ++ c.loop-front.all ∷ [])) c.in-Some.ensures.items c.loop-front.invariant.0)).0.0 }

pub loop-front-preserved-in-Ok : goal.loop-front-preserved-in-Ok
loop-front-preserved-in-Ok c =
    let before = c.loop-front.invariant in
    let left : List Piece = c.pop_last.new.before.items ++ c.pop_last.new.behind.items in
    let follow = FollowOn-last left c.in-Some.front c.loop-front.all (subst (λ (l : List Piece). FollowOn (l ++ c.loop-front.all ∷ [])) c.in-Some.ensures.items before.0) in
    let same = sym (bytes_of-last left c.in-Some.front c.loop-front.all) ∙ ap (λ (l : List Piece). bytes_of (l ++ c.loop-front.all ∷ [])) (sym c.in-Some.ensures.items) ∙ before.1 in
    rw c.in-Ok.ensures.run (follow.1, same, c.in-Some.ensures.capacity.0 ∙ before.2, c.in-Some.ensures.capacity.1 ∙ before.3)

pub loop-front-preserved : goal.loop-front-preserved
loop-front-preserved c =
    let follow = FollowOn-last (c.pop_last.new.before.items ++ c.pop_last.new.behind.items) c.in-Some.front c.loop-front.all (subst (λ (l : List Piece). FollowOn (l ++ c.loop-front.all ∷ [])) c.in-Some.ensures.items c.loop-front.invariant.0) in
    grind (rules, follow.0.1, c.in-Err.ensures.touching)
