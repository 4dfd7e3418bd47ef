-- What the entries promise: the refusal or 0 and the value of document 01 that an answer stands for, and the room's bytes afterwards.
-- With a refusal every number is 0.
use Rattle.std.specs.Prelude.{◌≡◌, ℕ, List, [], Result}
use Rattle.std.specs.Result.{result_unwrap_or}
use Rattle.floor.specs.Floor.{refused, if_accepted}
use Rattle.floor.specs.declared.Refusal.{Refusal}
use Rattle.rules.specs.declared.Trip.{Trip}
use Rattle.rules.specs.Record.{trip_at, next_serial, write_refusal, written, count_refusal, counted, read_refusal, read_trip}

-- the writer's: the serial of the next record, and the room's bytes
pub record WritePromise (trip : Trip) (room : List ℕ) (answer : Result ℕ Refusal) (bytes : List ℕ) : Type 0 where
  pub answers : refused answer ≡ write_refusal trip room
  pub serial : result_unwrap_or answer 0 ≡ if_accepted (write_refusal trip room) (next_serial trip.serial) 0
  pub writes : bytes ≡ written trip room

-- the count's: the number of records
pub record CountPromise (bytes : List ℕ) (answer : Result ℕ Refusal) : Type 0 where
  pub answers : refused answer ≡ count_refusal bytes
  pub number : result_unwrap_or answer 0 ≡ counted bytes

-- the reader's: the values of one record, which are all 0 with a refusal, as in no bytes at all
pub record ReadPromise (bytes : List ℕ) (number : ℕ) (answer : Result Trip Refusal) : Type 0 where
  pub answers : refused answer ≡ read_refusal bytes number
  pub values : result_unwrap_or answer (trip_at [] 0) ≡ read_trip bytes number
