use Rattle.std.proofs.Common.{◌≢◌, ◌≤◌, refl, ap, ◌∙◌, length, Ok, Err}
use Rattle.hmac_tag.specs.declared.key.KeyFault.{KeyFault}
use Rattle.run_model.specs.declared.key_refusal.KeyRefusal.TheVariants.{Long}
use Rattle.integrity_tool.proofs.KeyLemmas.{at_most, file_bytes, is_long, key_is, key_told, read_key}
use Rattle.command_task.proofs.EndedLemmas.{ok_no_err}
use Rattle.integrity_tool.proofs.keyed.hash_of.Goals as goal

pub returns-in-Ok-from_bytes-clause-hash : goal.returns-in-Ok-from_bytes-clause-hash
returns-in-Ok-from_bytes-clause-hash g c bytes has =
    let told = file_bytes c.args.choice.now _ _ (g.K.NamedSource.named c.args.source.now) bytes c.in-HmacSha256.is c.as_str.ensures has in
    let read = c.deref.ensures.value ∙ c.in-Ok.ensures.read bytes told in
    let some : length c.deref.result.now ≢ 0 = λ none. ok_no_err _ _ _ c.in-Ok-from_bytes.is (c.from_bytes.ensures.empty.1 none) in
    let short : length c.deref.result.now ≤ 4096 =
    at_most (length c.deref.result.now) (λ long. ok_no_err _ _ _ c.in-Ok-from_bytes.is ((c.from_bytes.ensures.too_long (length c.deref.result.now)).1 (long, refl))) in
    key_told c.args.choice.now _ bytes (Ok c.in-Ok-from_bytes.key) c.in-HmacSha256.is (rw c.in-Ok-from_bytes.ensures.key (key_is c.deref.result.now bytes read some short))

pub returns-in-Err-TooLong-clause-refused : goal.returns-in-Err-TooLong-clause-refused
returns-in-Err-TooLong-clause-refused g c bytes has =
    let told = file_bytes c.args.choice.now _ _ (g.K.NamedSource.named c.args.source.now) bytes c.in-HmacSha256.is c.as_str.ensures has in
    let read = c.deref.ensures.value ∙ c.in-Ok.ensures.read bytes told in
    let long = ((c.from_bytes.ensures.too_long c.in-Err-TooLong.field-0-0).0 (c.in-Err-TooLong.is ∙ ap (λ (x : KeyFault). Err x) c.in-Err-TooLong.field-0-is)).0 in
    key_told c.args.choice.now _ bytes (Err Long) c.in-HmacSha256.is (is_long c.deref.result.now bytes read long)

pub returns-in-Ok-from_bytes-clause-read : goal.returns-in-Ok-from_bytes-clause-read
returns-in-Ok-from_bytes-clause-read g c =
    read_key c.args.choice.now _ _ g.K.NamedSource.named g.K.NamedSource.left c.args.source.now c.read_named.new.source _ c.in-HmacSha256.is c.as_str.ensures
    (λ bytes told. (c.read_named.ensures.taken bytes told, λ read. c.in-Ok.ensures.rest bytes told))

pub returns-in-Err-TooLong-clause-read : goal.returns-in-Err-TooLong-clause-read
returns-in-Err-TooLong-clause-read g c =
    read_key c.args.choice.now _ _ g.K.NamedSource.named g.K.NamedSource.left c.args.source.now c.read_named.new.source _ c.in-HmacSha256.is c.as_str.ensures
    (λ bytes told. (c.read_named.ensures.taken bytes told, λ read. c.in-Ok.ensures.rest bytes told))

pub returns-clause-read : goal.returns-clause-read
returns-clause-read g c =
    read_key c.args.choice.now _ _ g.K.NamedSource.named g.K.NamedSource.left c.args.source.now c.read_named.new.source _ c.in-HmacSha256.is c.as_str.ensures
    (λ bytes told. (c.read_named.ensures.taken bytes told, λ read. c.in-Ok.ensures.rest bytes told))
