-- How much of its stream a session has taken.
use Rattle.std.specs.Prelude.{◌≡◌, ℕ, suc, ◌≤◌, List, [], ◌++◌, length, take, flat_map, Option, Some, All}
use Rattle.disk_model.specs.Disk.{Image}
use Rattle.device_model.specs.Device.{DeviceKind}
use Rattle.nbd_model.specs.Deeds.{text_in}
use Rattle.nbd_model.specs.Session.{ending_in, most_piece, opened_session, take_pieces}
use Rattle.nbd_model.specs.Stream as streams
use Rattle.nbd_model.specs.Stream.{requests_of}
use Rattle.command_model.specs.Taken.{HoldsText}

-- No more of a stream is taken than pieces in which all that is asked is replied to and nothing ends the requests, and
-- one piece behind those. Its source is called only where all that it gave is replied to.
pub record HasReadStream (kind : DeviceKind) (image : Image) (stream : List ℕ) (left held_before held : Option (List ℕ))
    (failed : Type 0) : Type 0 where
  pub pieces : List (List ℕ)
  pub small : All (λ piece. length piece ≤ most_piece) pieces
  pub behind : List ℕ
  pub bytes : stream ≡ flat_map (λ piece. piece) pieces ++ behind
  pub taken : left ≡ Some behind
  pub done : ℕ
  pub but_one : length pieces ≤ suc done
  pub printed : HoldsText (text_in (take_pieces (kind.format image) (opened_session (kind.opened image))
      (ending_in [] 0 (take done pieces))).deeds) held_before held
  pub unended : (requests_of (flat_map (λ piece. piece) (take done pieces))).ending ≡ streams.Ended
  pub asked : failed → length pieces ≤ done
