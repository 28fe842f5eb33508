-- `joined` makes one slice of two that touch, by the lemma that their borrows are one. Assumes `Logic`.
use Rattle.std.proofs.Common.{◌≡◌, ℕ, ◌+◌, ◌<◌, ◌^◌, List, [], ◌∷◌, ◌++◌, length, refl, sym, ap, ◌∙◌, subst, MutBor, arith}
use Rattle.std.proofs.raw_atomic.Walks.{proved}
use base.Logic.{emp}
use base.Fml.{Fml, GName, ftrue, flft}
use mir.Syntax.{named}
use contract.Monad.{fact, fact_i}
use contract.Running.{tables}
use types.Kit.{‵, raw, ◌⊛◌, some, later, at_ret, ◌$◌, ◌∵◌, !, qed, move, keep, use0, use3, split, split3, join, pick, await, rewrite, suffices, fjoin, done}
use types.Run.{enter, of_opd, bin, addr, from, stop, fld, hop, no_more, and_then, first, blocks, exec, returns}
use types.Part.{whole, sub, agg}
use types.ByLocal.{alloc_all, pass_all, free_all, look_at, look_in_at, get, get_in, sets, sets_last, env}
use denote.Builtin.{u8}
use denote.Exit.{no}
use denote.Memory.{mem}
use denote.Signature.{plain, mut_slice_of}
use denote.Slice.{MutSlice, Room, slice_val, mut_slice_vals, mut_slice_Tells}
use denote.Steps.{nothing, heard}
use denote.Triple.Walked.{Stays, walk_of, stay_dropped, Goes-spent_slice, ends_at}
use borrow.Table.Elements.{at, at_byte, length_app}
use Rattle.sector_pool.specs.Run.{bytes_on}
use Rattle.sector_pool.proofs.Touching.{joins}
use Rattle.sector_pool.specs.contracts.pieces.joined as f
use Rattle.sector_pool.proofs.pieces.joined.Statement.{statement}
use Rattle.sector_pool.proofs.pieces.joined.Code as code

abbrev stayed : Stays f.ended.signature.params f.ended.kept
stayed = (stay_dropped (mut_slice_of (0 ∷ []) tt (plain (λ _. u8))) no, (stay_dropped (mut_slice_of (0 ∷ []) tt (plain (λ _. u8))) no, tt))

pub joined_spec : {M : Type 1} → statement M
joined_spec 𝓤 𝓛 𝓜 𝓡 wired =
    let c = f.clauses 𝓛 𝓜.mem 𝓡.returns in let W = walk_of 𝓛 f.ended stayed c in let 𝓣 = tables 𝓤 𝓛.H 𝓜 𝓡 𝓡.env in
    let goes = Goes-spent_slice 𝓛 1 (0 ∷ []) tt (plain (λ _. u8)) in
    proved 𝓛 f.ended stayed c 𝓜 𝓡 (goes, (goes, tt))
    f.Key.name code.function (code.unfolded 𝓤 𝓛.H 𝓜 𝓡 wired)
    (λ κs. (mut_slice_vals, (mut_slice_vals, tt))) (λ κs. (mut_slice_Tells (named 0) κs.0 u8, (mut_slice_Tells (named 0) κs.0 u8, tt)))
    (λ κs qs bounds a _ are.
    let κ = κs.0 in let q = qs.0 in let b = a.0.ref_ptr.0 in let o = a.0.ref_ptr.1 in
    let xs : List ℕ = a.0.now in let ys : List ℕ = a.1.0.now in let both : List ℕ = xs ++ ys in
    let n : ℕ = length xs + length ys in
    let p : ℕ = at o (mem u8).size (length xs) in
    let long : length both ≡ n = length_app xs ys in
    let y : W.Ghost = ((κs, qs, bounds, a, (mut_slice_vals a.0, (mut_slice_vals a.1.0, tt))), tt) in
    let Ref = MutSlice (named 0) κ u8 in
    let Back : ℕ × ℕ → Fml = λ r. (Ref.own_val (record { ref_ptr = r; ghost_name = a.1.0.ghost_name; now = ys }) (mut_slice_vals a.1.0)) in
    let Touching : Type 0 = a.1.0.ref_ptr ≡ bytes_on (length xs) a.0.ref_ptr in
    let out : GName → MutBor (List ℕ) = λ γ. record { ref_ptr = (b, o); ghost_name = γ; now = both } in
    qed 𝓛 (((‵ (flft κ q) ⊛ ‵ ftrue) ⊛ ‵ (Ref.own_val a.0 (mut_slice_vals a.0)) ⊛ ‵ (Back a.1.0.ref_ptr) ⊛ ‵ ftrue) ∷ (raw (fact 𝓤 Touching) ⊛ raw (fact 𝓤 (n < 2 ^ 63))) ∷ []) ∵
    move ! (1 ∷ []) $ split ! $ heard ! Touching (λ touching. heard ! (n < 2 ^ 63) (λ fits.
    let small : n < 2 ^ 64 = omega arith in
    let small₁ : length xs < 2 ^ 64 = omega arith in
    let small₂ : length ys < 2 ^ 64 = omega arith in
    let place : a.1.0.ref_ptr ≡ (b, p) = touching ∙ ap (λ (j : ℕ). (b, j)) (omega (arith, at_byte o (length xs))) in
    let room : Room u8 (length both) = subst (λ (j : ℕ). Room u8 j) (sym long) (small, omega arith) in
    split ! $ split ! $ move ! (2 ∷ []) $ split3 ! $ keep ! (0 ∷ 1 ∷ 3 ∷ []) $
    enter ! _ _ _ _ _ $ alloc_all ! (λ l. pass_all ! refl ((tt, (tt, (record { fits = small₁ }, tt))), ((tt, (tt, (record { fits = small₂ }, tt))), tt)) $
    sets ! (of_opd ! (get_in ! (fld ! refl (stop !)) (sub ! 1 refl (whole !)))) refl (tt, record { fits = small₁ }) $
    sets ! (of_opd ! (get_in ! (fld ! refl (stop !)) (sub ! 1 refl (whole !)))) refl (tt, record { fits = small₂ }) $
    sets ! (bin ! (get ! refl) (get ! refl) (record { fits = small })) refl (tt, record { fits = small }) $
    first ! $ blocks ! $
    sets ! (addr ! (from ! (fld ! refl (hop ! (look_in_at ! 1 (sub ! 0 refl (whole !))) (stop !))))) refl (tt, tt) $
    sets_last ! (agg ! (and_then ! (get ! refl) (and_then ! (get ! refl) (no_more !)))) refl (tt, (tt, (record { fits = small }, tt))) $
    exec ! 𝓣.C 𝓣.Λ (env code.Mir.locals l) code.Mir.t-5 (at_ret _ (W.post y)) $
    sets ! (of_opd ! (get ! refl)) refl (tt, (tt, (record { fits = small }, tt))) $
    rewrite ! 1 (λ (r : ℕ × ℕ). ‵ (Back r)) place refl $
    use3 𝓛 (later (some (λ (γ : GName). ‵ (Ref.own_val (out γ) (slice_val (b, o) (length both) ∷ [])) ⊛ ‵ (flft κ q))))
    (joins 𝓛 (named 0) κ q b o xs ys a.0.ghost_name a.1.0.ghost_name (mut_slice_vals a.0) (mut_slice_vals a.1.0) room) $ await ! tt $ pick ! (λ γ. split ! $
    rewrite ! 0 (λ (j : ℕ). ‵ (Ref.own_val (out γ) (slice_val (b, o) j ∷ []))) long refl $
    returns ! (look_at ! 0 refl) $ free_all ! refl $
    suffices ! _ (ends_at 𝓛 f.ended stayed c y (slice_val (b, o) n) (out γ) (tt, (tt, tt)) (tt, (tt, tt))) $
    use0 𝓛 (raw (fact 𝓤 (a.0.ref_ptr ≡ a.0.ref_ptr))) (fact_i 𝓤 _ (emp 𝓤) refl) $ use0 𝓛 (raw (fact 𝓤 (both ≡ both))) (fact_i 𝓤 _ (emp 𝓤) refl) $ join ! $ move ! (1 ∷ 2 ∷ []) $
    nothing ! $ nothing ! $ fjoin ! $ nothing ! $ fjoin ! $ join ! $ nothing ! $ move ! (2 ∷ 0 ∷ []) $ join ! $ join ! $ done !)))))
