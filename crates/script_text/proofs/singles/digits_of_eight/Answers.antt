-- The digits of eight bytes are looked up at the halves of each.
use Rattle.script_text.proofs.LaneLemmas.{halves_of_eight, digits_at_halves}
use Rattle.script_text.proofs.singles.digits_of_eight.Goals as goal

pub swizzle : goal.swizzle
swizzle c = halves_of_eight c.args.bytes c.fits-bytes.0 c.fits-bytes.1

pub returns : goal.returns
returns c = digits_at_halves c.args.bytes c.fits-bytes.0 c.fits-bytes.1
