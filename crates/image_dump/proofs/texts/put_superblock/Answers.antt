-- The text is its lines, one after the other.
use Rattle.std.proofs.Common.{ℕ, List, [], ◌∷◌, ◌++◌, ◌*◌, ◌^◌, codes}
use Rattle.std.specs.Fmt.{decimal}
use Rattle.hex.specs.Hex.{encode_lower}
use Rattle.device_model.specs.Refusals.{hexadecimal}
use Rattle.dump_model.proofs.LinesLemmas.{five_lines, two_parts, number_put}
use Rattle.image_dump.proofs.texts.put_superblock.Goals as goal

pub returns : goal.returns
returns c =
    let s = c.args.fields.now in
    let text = c.args.text.now.items in
    let half = c.put_number-5.new.text.items in
    let all = c.put_bytes.new.text.items in
    let version : List ℕ = codes "version " ++ decimal s.version in
    let interleave : List ℕ = codes "interleave " ++ decimal (2 ^ s.log2_interleave) in
    let tag : List ℕ = codes "tag " ++ decimal s.tag_size in
    let sections : List ℕ = codes "sections " ++ decimal s.sections in
    let provided : List ℕ = codes "provided " ++ decimal s.provided in
    let flags : List ℕ = codes "flags " ++ hexadecimal s.flags in
    let block : List ℕ = codes "block " ++ decimal (512 * 2 ^ s.log2_spb) in
    let region : List ℕ = codes "log2 blocks per bit " ++ decimal s.log2_region in
    let recalculate : List ℕ = codes "recalculate " ++ decimal s.recalc_sector in
    let salt : List ℕ = codes "salt " ++ encode_lower s.salt in
    let first = five_lines text c.put_number.new.text.items c.put_number-2.new.text.items
    c.put_number-3.new.text.items c.put_number-4.new.text.items half version interleave tag sections provided
    c.in_ok-put_number.ensures
    (number_put _ _ (codes "interleave ") c.power_of_two.result (2 ^ s.log2_interleave)
    c.in_ok-put_number-2.ensures c.power_of_two.ensures)
    c.in_ok-put_number-3.ensures c.in_ok-put_number-4.ensures c.in_ok-put_number-5.ensures in
    let second = five_lines half c.put_flags.new.text.items c.put_number-6.new.text.items
    c.put_number-7.new.text.items c.put_number-8.new.text.items all flags block region recalculate salt
    c.in_ok-put_flags.ensures
    (number_put _ _ (codes "block ") c.block_size.result (512 * 2 ^ s.log2_spb)
    c.in_ok-put_number-6.ensures c.block_size.ensures)
    c.in_ok-put_number-7.ensures c.in_ok-put_number-8.ensures c.in_ok-put_bytes.ensures in
    two_parts text half all (version ∷ interleave ∷ tag ∷ sections ∷ provided ∷ [])
    (flags ∷ block ∷ region ∷ recalculate ∷ salt ∷ []) first second
