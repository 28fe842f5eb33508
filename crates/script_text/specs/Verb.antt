-- The words with which a line begins, as in the grammar.
use Rattle.device_model.specs.Grammar
use Rattle.device_model.specs.Grammar.{FillVerb, WriteVerb, ReadVerb, FlushVerb, ServeVerb, TakeVerb, StepVerb}
use Rattle.script_text.specs.declared.verb.AskVerb.{AskVerb}
use Rattle.script_text.specs.declared.verb.AskVerb.TheVariants.{Fill, Write, Read, Flush}
use Rattle.script_text.specs.declared.verb.Verb.{Verb}
use Rattle.script_text.specs.declared.verb.Verb.TheVariants.{Ask, Serve, Take, Step}

abbrev pub ask_verb_of : AskVerb → Grammar.Verb
ask_verb_of Fill = FillVerb
ask_verb_of Write = WriteVerb
ask_verb_of Read = ReadVerb
ask_verb_of Flush = FlushVerb

abbrev pub verb_of : Verb → Grammar.Verb
verb_of (Ask ask) = ask_verb_of ask
verb_of Serve = ServeVerb
verb_of Take = TakeVerb
verb_of Step = StepVerb
