-- A record and its bytes undo each other: it may be kept as bytes.
use Rattle.std.specs.Prelude.{ℕ, ◌^◌, ◌≡◌, List, length}
use Rattle.refusals.specs.Refusals.{limit}
use Rattle.kron_reduction.specs.declared.KronReducer.{KronReducer}
use Rattle.number_bytes.specs.RoundTrip.{Below}
use Rattle.entries.specs.Records.{record_bytes, record_in, sizes_of, in_bytes}

pub record RecordBack : Type 1 where
  -- a record whose sizes fit 8 bytes and whose numbers fit 4, with as many places of rows and of numbers as the limit, comes back from
  -- its bytes
  pub record-back : (r : KronReducer) → length r.active_buses ≡ limit → length r.numbers ≡ limit
      → Below (256 ^ 8) (sizes_of r) → Below (256 ^ 4) r.numbers → record_in (in_bytes r) ≡ r
  -- so do the bytes from the record in them
  pub bytes_back : (bs : List ℕ) → Below 256 bs → length bs ≡ record_bytes → in_bytes (record_in bs) ≡ bs
