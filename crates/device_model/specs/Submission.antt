-- What is handed in to a device, and the request that it makes.
-- Own: a request brings its bytes, and gives them back with its reply.
use Rattle.std.specs.Prelude.{ℕ, zero, suc, Bool, List, [], ◌∷◌, take, drop}
use Rattle.device_model.specs.Request.{Request}

-- A read brings the buffer that it reads into, a write the bytes that it writes.
pub data Submission : Type 0 where
  Read : (first count : ℕ) → (buffer : List ℕ) → Submission
  Write : (first count : ℕ) → (bytes : List ℕ) → (fua : Bool) → Submission
  Flush : Submission

-- Some bytes as so many blocks of so many bytes.
abbrev pub blocks_in : (size count : ℕ) → List ℕ → List (List ℕ)
blocks_in size zero bytes = []
blocks_in size (suc count) bytes = take size bytes ∷ blocks_in size count (drop size bytes)

-- The request, its blocks being of so many bytes.
abbrev pub request_in : ℕ → Submission → Request
request_in size (Read first count buffer) = Request.Read first count
request_in size (Write first count bytes fua) = Request.Write first (blocks_in size count bytes) fua
request_in size Flush = Request.Flush

-- The bytes that come with it.
abbrev pub bytes_in : Submission → List ℕ
bytes_in (Read first count buffer) = buffer
bytes_in (Write first count bytes fua) = bytes
bytes_in Flush = []
