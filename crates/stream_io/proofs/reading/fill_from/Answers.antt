use Rattle.std.proofs.Common.{◌≡◌, ℕ, List, Some, ◌∙◌, sym, ap, subst, length, take, drop}
use Rattle.std.specs.Option.{ForSome, option_map}
use Rattle.disk_model.specs.Identity.{Binding, IsBoundTo}
use Rattle.std.proofs.lemmas.Result.{IfOk-weaker, on_ok_weaker}
use Rattle.stream_io.proofs.reading.fill_from.Goals as goal

pub returns-clause-read : goal.returns-clause-read
returns-clause-read g c =
    let name = c.args.name.now in
    let old = c.args.source.now in
    let source = c.bind.new.self in
    let size = length c.fill.new.buffer in
    let left_is : (all : List ℕ) → g.S.NamedSource.named old name ≡ Some all → g.S.NamedSource.left source ≡ Some all = λ all told.
    sym (g.met.S.NamedSource.named_if_bound source name c.in_ok-bind.ensures.bound) ∙ g.met.S.NamedSource.same_named name old source all c.bind.ensures.same told ∙ told in
    IfOk-weaker c.fill.result (λ n. ForSome (g.S.NamedSource.left source) (λ left. take n c.fill.new.buffer ≡ take size left))
    (λ n. ForSome (g.S.NamedSource.named old name) (λ all. take n c.fill.new.buffer ≡ take size all)) (λ n read all told. read all (left_is all told)) c.fill.ensures.read

pub returns-clause-rest : goal.returns-clause-rest
returns-clause-rest g c =
    let name = c.args.name.now in
    let old = c.args.source.now in
    let source = c.bind.new.self in
    let left_is : (all : List ℕ) → g.S.NamedSource.named old name ≡ Some all → g.S.NamedSource.left source ≡ Some all = λ all told.
    sym (g.met.S.NamedSource.named_if_bound source name c.in_ok-bind.ensures.bound) ∙ g.met.S.NamedSource.same_named name old source all c.bind.ensures.same told ∙ told in
    on_ok_weaker c.fill.result (λ rest all told. rest ∙ ap (option_map (drop (length c.fill.new.buffer))) (left_is all told)) c.fill.ensures.rest

pub returns-clause-taken : goal.returns-clause-taken
returns-clause-taken g c =
    let name = c.args.name.now in
    let old = c.args.source.now in
    let source = c.bind.new.self in
    let taken = c.fill.ensures.taken in
    λ all told. record {
      count = taken.count;
      within = taken.within;
      rest =
          g.met.S.NamedSource.named_if_bound c.fill.new.source name
          (subst (λ (b : Binding). IsBoundTo name b) (sym c.fill.ensures.binding) c.in_ok-bind.ensures.bound)
          ∙ taken.rest
          ∙ ap (option_map (drop taken.count))
          (sym (g.met.S.NamedSource.named_if_bound source name c.in_ok-bind.ensures.bound) ∙ g.met.S.NamedSource.same_named name old source all c.bind.ensures.same told ∙ told);
    }
