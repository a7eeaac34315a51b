-- The request that numbers become, or the fault of the first that is no day or no amount. Assumes nothing.
use Rattle.std.specs.Prelude.{ℕ, ℤ, Ok, Result}
use Rattle.values.specs.declared.fault.ValueFault.{ValueFault}
use Rattle.values.specs.Making.{and_then, day_of, claim_days_of}
use Rattle.register.specs.Terms.{new_terms}
use Rattle.register.specs.declared.kind.MovementKind.{MovementKind}
use Rattle.cube.specs.declared.request.Request.{Request}
use Rattle.cube.specs.declared.request.Request.TheVariants as request

abbrev pub opening_of : (booked inception occurrence report : ℕ) → Result Request ValueFault
opening_of booked inception occurrence report = and_then (day_of booked) (λ b. and_then (claim_days_of inception occurrence report) (λ days. Ok (request.Open b days)))

abbrev pub movement_of : MovementKind → (booked claim effective : ℕ) → ℤ → Result Request ValueFault
movement_of kind booked claim effective cents = and_then (day_of booked) (λ b. and_then (new_terms effective cents) (λ terms. Ok (request.Movement kind b claim terms)))

abbrev pub void_of : (booked number : ℕ) → Result Request ValueFault
void_of booked number = and_then (day_of booked) (λ b. Ok (request.Void b number))

abbrev pub redating_of : (booked claim inception occurrence report : ℕ) → Result Request ValueFault
redating_of booked claim inception occurrence report = and_then (day_of booked) (λ b. and_then (claim_days_of inception occurrence report) (λ days. Ok (request.Redate b claim days)))

abbrev pub post_of : (place booked effective : ℕ) → ℤ → Result Request ValueFault
post_of place booked effective cents = and_then (day_of booked) (λ b. and_then (new_terms effective cents) (λ terms. Ok (request.Post b place terms)))

abbrev pub query_of : (known valued : ℕ) → Result Request ValueFault
query_of known valued = and_then (day_of known) (λ k. and_then (day_of valued) (λ v. Ok (request.Query k v)))
