-- A device of which all requests are taken: what its blocks hold is what the requests left one after the other.
use Rattle.std.proofs.Common.{◌≡◌, ℕ, ◌<◌, ◌≤◌, List, [], length, take, Some, slice_get, sym, ◌∙◌, ap, arith}
use Rattle.std.proofs.lemmas.List.{take_all, length-map}
use Rattle.device_model.specs.History.{cells_now}
use Rattle.device_model.specs.Mode.{DeviceFormat}
use Rattle.device_model.specs.Progress.{DeviceState}
use Rattle.device_model.specs.Request.{Asked, Request, RequestState, has_reply, writes_of, front_of}
use Rattle.device_model.specs.RequestLaws.{IsReached, requests_of, writes_to}
use Rattle.device_model.specs.ScriptLaws.{IsAtRest}
use Rattle.device_model.specs.Serial.{serial_cells}
use Rattle.device_model.proofs.EventLemmas.{IsServing-reached}
use Rattle.device_model.proofs.RequestLemmas.{cells_after-same_writes, length-from_slice_get, serial_cells-is, served_writes-before, whole_writes}
use Rattle.device_model.proofs.SerialLemmas.{front-whole}

module _ (f : DeviceFormat) (s : DeviceState) (reached : IsReached f s) (rests : IsAtRest s) (b : ℕ) where
  abbrev requests : List Asked
  requests = s.progress.requests

  all_served : (i : ℕ) (x : Asked) → i < length requests → slice_get requests i ≡ Some x → (ticket : ℕ)
      → writes_to b (writes_of ticket (front_of x.served x.request)) ≡ writes_to b (writes_of ticket x.request)
  all_served i x below is ticket =
      let serving = IsServing-reached f s reached in
      ap (writes_to b)
      (front-whole f s.history.base (serial_cells f 1 s.history.base (take i (requests_of requests))) x x.request (serving.stands.each i x is)
      (ap (λ (state : RequestState). has_reply state) (rests.each i x is)) ticket)

  none_behind : (i : ℕ) (x : Asked) → length requests ≤ i → slice_get requests i ≡ Some x → (ticket : ℕ)
      → writes_to b (writes_of ticket (front_of x.served x.request)) ≡ []
  none_behind i x above is ticket =
      let low : i < length requests = length-from_slice_get requests i x is in
      absurd (omega (arith, low, above))

  pub rest_cells : serial_cells f 1 s.history.base (requests_of requests) b ≡ cells_now f.blocks.tag s.history b
  rest_cells =
      let serving = IsServing-reached f s reached in
      let whole : take (length requests) (requests_of requests) ≡ requests_of requests =
      take_all (length requests) (requests_of requests) (let same = length-map requests (λ (a : Asked). a.request) in omega (arith, same)) in
      serial_cells-is f 1 s.history.base (requests_of requests) b
      ∙ sym (cells_after-same_writes f.blocks.tag s.history.base s.history.writes (whole_writes 1 (requests_of requests)) b
      (serving.stands.in_order b
      ∙ served_writes-before b 1 (length requests) requests all_served none_behind
      ∙ ap (λ (l : List Request). writes_to b (whole_writes 1 l)) whole))
