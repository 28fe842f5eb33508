use Rattle.std.proofs.Common.{rules, ◌≡◌, ℕ, ◌+◌, ◌/◌, ◌%◌, if◌then◌else◌, nat_lt, false, Some, ◌∙◌, sym, ap, subst, arith, refl, List, length, OnOk}
use Rattle.std.proofs.lemmas.Result.{on_ok_weaker}
use Rattle.disk_model.specs.Disk.{AddsSome, Content, Image, Reads, with_run}
use Rattle.disk_model.specs.Identity.{DiskIdentity}
use Rattle.disk_model.specs.Moments.{EachSince, IsChangedBy, content_now}
use Rattle.buffer_cache.proofs.CachedLemmas.{changed_now}
use Rattle.image_model.specs.Bitmap.{is_bit_set}
use Rattle.image_model.specs.Geometry.{regions}
use Rattle.resize_model.specs.CallLaws.{AreNewBits}
use Rattle.resize_model.specs.Growth.{StandsFor}
use Rattle.image_resizing.specs.Cleared.{StandsClearing, bits_begin}
use Rattle.image_resizing.specs.Plan.{growth_of}
use Rattle.image_resizing.proofs.ClearedLemmas.{bits_fill, bits_stand, clearing_still, first_new, group_inside, group_no_tag, read_old, stands_if}
use Rattle.image_resizing.proofs.FilledLemmas.{IsRead, run_gives}
use Rattle.image_resizing.proofs.clearing.clear_first.Goals as goal

pub overflow_add-at : goal.overflow_add-at
overflow_add-at g c =
    let inside = group_inside (g.D.Disk.identity c.args.disk.now).sectors c.args.plan.now c.requires.plan c.requires.bitmap (bits_begin c.args.plan.now) (omega (arith, c.requires.some)) in
    omega (arith, inside.0, inside.1, c.requires.plan.grown.geometry.device, c.regions-first.ensures)

pub read_run-requires-clause-run : goal.read_run-requires-clause-run
read_run-requires-clause-run g c =
    let inside = group_inside (g.D.Disk.identity c.args.disk.now).sectors c.args.plan.now c.requires.plan c.requires.bitmap (bits_begin c.args.plan.now) (omega (arith, c.requires.some)) in
    record { whole = refl; some = omega arith; inside = omega (arith, inside.0, inside.1, c.regions-first.ensures) }

pub returns-in_err-read_run-clause-stands : goal.returns-in_err-read_run-clause-stands
returns-in_err-read_run-clause-stands g c =
    subst (λ (x : List Content). StandsClearing (g.D.Disk.identity c.args.disk.now).sectors c.args.plan.now (bits_begin c.args.plan.now) (g.D.Disk.moments c.args.disk.now) x) (sym c.read_run.ensures.kept)
    (clearing_still (g.D.Disk.identity c.args.disk.now).sectors c.args.plan.now (g.D.Disk.moments c.args.disk.now) (bits_begin c.args.plan.now))

pub write_run-requires-clause-run : goal.write_run-requires-clause-run
write_run-requires-clause-run g c =
    let inside = group_inside (g.D.Disk.identity c.args.disk.now).sectors c.args.plan.now c.requires.plan c.requires.bitmap (bits_begin c.args.plan.now) (omega (arith, c.requires.some)) in
    let size : length c.clear_from.new.bytes ≡ 512 = search rules in
    let same = ap (λ (d : DiskIdentity). d.sectors) c.read_run.ensures.identity in
    record { whole = omega (arith, size); some = omega (arith, size); inside = omega (arith, size, same, inside.0, inside.1, c.regions-first.ensures) }

pub returns-clause-cleared : goal.returns-clause-cleared
returns-clause-cleared g c =
    let disk = c.args.disk.now in
    let plan = c.args.plan.now in
    let sectors = (g.D.Disk.identity disk).sectors in
    let bytes = c.clear_from.new.bytes in
    let size : length bytes ≡ 512 = search rules in
    let at : 8 + c.regions-first.result / 4096 ≡ 8 + bits_begin plan = ap (λ (n : ℕ). 8 + n / 4096) c.regions-first.ensures in
    let old = c.read_run.new.buffer in
    let cleared : (r : ℕ) → is_bit_set bytes r ≡ (if nat_lt r (regions plan.present.geometry % 4096) then is_bit_set old r else false) =
    subst (λ (n : ℕ). (r : ℕ) → is_bit_set bytes r ≡ (if nat_lt r (n % 4096) then is_bit_set old r else false)) c.regions-first.ensures c.clear_from.ensures in
    let old_size : length old ≡ 512 = search rules in
    let are : (image : Image) (x : Content) → content_now (g.D.Disk.moments c.args.disk.now) ≡ Some x → StandsFor (growth_of sectors plan image) x → AreNewBits (growth_of sectors plan image) (bits_begin plan) 1 bytes = λ image x told stands.
    first_new sectors plan c.requires.plan c.requires.bitmap image old bytes c.requires.some size cleared
    (read_old sectors plan c.requires.plan c.requires.bitmap image x old stands (g.met.D.Disk.reads_an_image disk x told) old_size
    (subst (λ (n : ℕ). Reads n old x) at (c.in_ok-read_run.ensures.read x told))) in
    let written_at : OnOk c.write_run.result (IsChangedBy (with_run (8 + bits_begin plan) bytes) (g.D.Disk.moments c.args.disk.now) (g.D.Disk.moments c.write_run.new.self)) =
    on_ok_weaker c.write_run.result (λ written. subst (λ (n : ℕ). IsChangedBy (with_run n bytes) (g.D.Disk.moments c.args.disk.now) (g.D.Disk.moments c.write_run.new.self)) at (subst (λ (x : List Content). IsChangedBy (with_run (8 + c.regions-first.result / 4096) bytes) x (g.D.Disk.moments c.write_run.new.self)) c.read_run.ensures.kept written)) c.write_run.ensures.written in
    let read : IsRead sectors (g.D.Disk.moments c.args.disk.now) = record { image = g.met.D.Disk.reads_an_image disk; whole = g.met.D.Disk.whole_sectors disk } in
    let read_now : IsRead sectors (g.D.Disk.moments c.write_run.new.self) =
    subst (λ (i : DiskIdentity). IsRead i.sectors (g.D.Disk.moments c.write_run.new.self)) (c.write_run.ensures.identity ∙ c.read_run.ensures.identity)
    (record { image = g.met.D.Disk.reads_an_image c.write_run.new.self; whole = g.met.D.Disk.whole_sectors c.write_run.new.self }) in
    on_ok_weaker c.write_run.result
    (λ written image done has x told.
    let first = changed_now (with_run (8 + bits_begin plan) bytes) (content_now (g.D.Disk.moments c.args.disk.now)) (content_now (g.D.Disk.moments c.write_run.new.self)) written x told in
    bits_fill sectors plan c.requires.plan c.requires.bitmap image (bits_begin plan) 1 done bytes (g.D.Disk.moments c.args.disk.now) (g.D.Disk.moments c.write_run.new.self)
    (are image first.0 first.1 (has first.0 first.1).stands) has written
    (run_gives plan.grown.geometry sectors (8 + bits_begin plan) bytes (g.D.Disk.moments c.args.disk.now) (g.D.Disk.moments c.write_run.new.self) c.requires.plan.grown.geometry
    (group_no_tag sectors plan c.requires.plan c.requires.bitmap (bits_begin plan) 1 bytes size (omega (arith, c.requires.some))) written read read_now) x told)
    written_at

pub returns-clause-stands : goal.returns-clause-stands
returns-clause-stands g c image done has =
    let disk = c.args.disk.now in
    let plan = c.args.plan.now in
    let sectors = (g.D.Disk.identity disk).sectors in
    let bytes = c.clear_from.new.bytes in
    let size : length bytes ≡ 512 = search rules in
    let at : 8 + c.regions-first.result / 4096 ≡ 8 + bits_begin plan = ap (λ (n : ℕ). 8 + n / 4096) c.regions-first.ensures in
    let old = c.read_run.new.buffer in
    let cleared : (r : ℕ) → is_bit_set bytes r ≡ (if nat_lt r (regions plan.present.geometry % 4096) then is_bit_set old r else false) =
    subst (λ (n : ℕ). (r : ℕ) → is_bit_set bytes r ≡ (if nat_lt r (n % 4096) then is_bit_set old r else false)) c.regions-first.ensures c.clear_from.ensures in
    let old_size : length old ≡ 512 = search rules in
    let are : (image : Image) (x : Content) → content_now (g.D.Disk.moments c.args.disk.now) ≡ Some x → StandsFor (growth_of sectors plan image) x → AreNewBits (growth_of sectors plan image) (bits_begin plan) 1 bytes = λ image x told stands.
    first_new sectors plan c.requires.plan c.requires.bitmap image old bytes c.requires.some size cleared
    (read_old sectors plan c.requires.plan c.requires.bitmap image x old stands (g.met.D.Disk.reads_an_image disk x told) old_size
    (subst (λ (n : ℕ). Reads n old x) at (c.in_ok-read_run.ensures.read x told))) in
    let m : EachSince (AddsSome (8 + bits_begin plan) bytes) (g.D.Disk.moments c.args.disk.now) (g.D.Disk.moments c.write_run.new.self) =
    subst (λ (n : ℕ). EachSince (AddsSome n bytes) (g.D.Disk.moments c.args.disk.now) (g.D.Disk.moments c.write_run.new.self)) at (subst (λ (x : List Content). EachSince (AddsSome (8 + c.regions-first.result / 4096) bytes) x (g.D.Disk.moments c.write_run.new.self)) c.read_run.ensures.kept c.write_run.ensures.moments) in
    stands_if (growth_of sectors plan image) (g.D.Disk.moments c.args.disk.now) (g.D.Disk.moments c.write_run.new.self) (AddsSome (8 + bits_begin plan) bytes) m
    (λ x told. bits_stand sectors plan c.requires.plan c.requires.bitmap image (bits_begin plan) 1 done bytes (g.D.Disk.moments c.args.disk.now) (g.D.Disk.moments c.write_run.new.self) (are image x told (has x told).stands) has m)
