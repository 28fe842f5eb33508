-- What is told of an answer of a mirror.
use Rattle.std.specs.Prelude.{ℕ, List, codes}
use Rattle.device_model.specs.Transcript.{write_text}
use Rattle.mirror_model.specs.Script.{mirror_read_text}
use Rattle.mirror_calls.specs.Given.{reply_as}
use Rattle.mirror_calls.specs.declared.reading.MirrorReply.{MirrorReply}
use Rattle.mirror_calls.specs.declared.reading.MirrorReply.TheVariants as Replies
use Rattle.script_text.specs.declared.tags_found.TagsFound.{TagsFound}
use Rattle.script_text.specs.declared.tags_found.TagsFound.TheVariants.{Matching, Differing}
use Rattle.mirror_session.specs.declared.answer.MirrorAnswer.{MirrorAnswer}
use Rattle.mirror_session.specs.declared.answer.MirrorAnswer.TheVariants.{Read, Written, Flushed}

-- The text of an answer.
abbrev pub answer_text : MirrorAnswer → List ℕ
answer_text (Read first count reply) = mirror_read_text first count (reply_as reply)
answer_text (Written first count) = write_text first count
answer_text Flushed = codes "ok flush\n"

abbrev pub reply_found : MirrorReply → TagsFound
reply_found (Replies.Read buffer) = Matching
reply_found (Replies.TagFault block a b) = Differing

-- Whether it tells a block that matches on neither leg.
abbrev pub answer_found : MirrorAnswer → TagsFound
answer_found (Read first count reply) = reply_found reply
answer_found (Written first count) = Matching
answer_found Flushed = Matching
