-- What clients ask for.
use Rattle.std.specs.Prelude.{ℕ, ◌≤◌, List, [], ◌∷◌, length, slice_index_or}
use Rattle.std.specs.List.{AllByRecursion}
use Rattle.sea_object.specs.declared.op.Op.{Op}
use Rattle.sea_history.specs.declared.plan.TheConstants.{CLIENTS, CLIENT_REQUESTS}

-- the requests of each client, in order
abbrev pub Requests : Type 0
Requests = List (List (List Op))

-- a client of a plan; clients count from 1
abbrev pub IsClientOf : ℕ → Requests → Type 0
IsClientOf client plan = (1 ≤ client) × (client ≤ length plan)

-- the requests of a client, of which there are none where the plan has no such client
abbrev pub requests_of : ℕ → Requests → List (List Op)
requests_of client plan = slice_index_or ([] ∷ plan) client []

-- 1 to 16 clients of 10,000 requests at most
pub record IsPlan (plan : Requests) : Type 0 where
  pub some : 1 ≤ length plan
  pub few : length plan ≤ CLIENTS
  pub each : AllByRecursion (λ requests. length requests ≤ CLIENT_REQUESTS) plan
