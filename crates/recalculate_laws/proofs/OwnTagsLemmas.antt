-- The tags of blocks that do not await.
use Rattle.std.proofs.Common.{◌≡◌, refl, sym, ◌∙◌, ap, subst, arith, [], take, drop}
use Rattle.std.specs.List.{Any}
use Rattle.std.proofs.lemmas.Bool.{false_from_ne_true, true≢false}
use Rattle.std.proofs.lemmas.List.{take-append-drop}
use Rattle.image_model.specs.Bitmap.{is_to_recalculate}
use Rattle.image_model.specs.Cells.{Cell}
use Rattle.image_model.proofs.BitmapLemmas.{awaits-journal}
use Rattle.device_model.specs.History.{BlockWrite}
use Rattle.device_model.proofs.HistoryLemmas.{Any-append_right, cells_after-others}
use Rattle.place_model.specs.Format.{tagger_of}
use Rattle.place_model.proofs.PlacedLemmas.{cells_of-none, recalculated-tag}
use Rattle.journal_model.proofs.EntriesLemmas.{cell_after-none}
use Rattle.journal_model.proofs.PlaceLemmas.{placed_is}
use Rattle.direct_model.proofs.DirectLemmas.{placed_standing_law}
use Rattle.recalculate_laws.specs.OwnTags.{BaseTagLaw, DirectTagStaysLaw, RestsMovedLaw, TagStaysLaw}

pub base_tag_law : BaseTagLaw
base_tag_law d entry b clear rests =
    let placed = recalculated-tag d.key d.superblock d.geometry entry b (awaits-journal d.superblock d.geometry entry b clear ∙ rests) in
    (placed, λ none. ap (λ (cell : Cell). cell.tag) (cells_of-none d.key d.superblock d.geometry entry b none) ∙ placed)

pub rests_moved_law : RestsMovedLaw
rests_moved_law s t g sectors awaiting b moves low rests =
    false_from_ne_true (is_to_recalculate t g b) (λ waits. true≢false (sym (moves.fewer b low waits) ∙ rests))

pub tag_stays_law : TagStaysLaw
tag_stays_law d c b stands low rests none image is_image =
    let formed = stands.sound.formed in
    let placed = placed_is d formed image (λ sector. (stands.each sector (image sector) (is_image sector)).outside) 0 (omega arith) b low none in
    sym (recalculated-tag d.key d.superblock d.geometry image b (awaits-journal d.superblock d.geometry image b formed.no_bitmap ∙ rests))
    ∙ ap (λ (cell : Cell). cell.tag) (placed ∙ cell_after-none d.geometry d.base [] b refl)

pub direct_tag_stays_law : DirectTagStaysLaw
direct_tag_stays_law d c b stands low rests unwritten image is_image =
    let cut = placed_standing_law d c stands image is_image in
    let kept = λ (any : Any (λ (write : BlockWrite). write.block ≡ b) (drop d.flushed d.writes)).
    unwritten (subst (Any (λ (write : BlockWrite). write.block ≡ b)) (take-append-drop d.flushed d.writes)
    (Any-append_right (λ (write : BlockWrite). write.block ≡ b) (take d.flushed d.writes) (drop d.flushed d.writes) any)) in
    sym (recalculated-tag d.key d.superblock d.geometry image b (awaits-journal d.superblock d.geometry image b stands.formed.no_bitmap ∙ rests))
    ∙ ap (λ (cell : Cell). cell.tag) (cut.cells b low kept ∙ cells_after-others (tagger_of d.format) d.base d.writes b unwritten)
