use Rattle.std.proofs.Common.{◌≡◌, ◌∙◌, Some, refl}
use Rattle.std.specs.Int.Count.{ones}
use Rattle.command_words.specs.Numbers.{interleave_of}
use Rattle.command_words.proofs.judging.interleave_or_32768.Goals as goal

default_is_interleave : interleave_of 32768 ≡ Some 32768
unfolding ones
default_is_interleave = refl

pub returns-in-None : goal.returns-in-None
returns-in-None c =
    rw c.in-None.is (c.new-in-None.ensures ∙ default_is_interleave)
