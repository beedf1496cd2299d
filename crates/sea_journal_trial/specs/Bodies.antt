-- Bodies that may go into a record.
use Rattle.std.specs.Prelude.{◌≡◌, ℕ, ◌+◌, ◌<◌, ◌≤◌, List, length, slice_index_or}
use Rattle.std.specs.List.{All}
use Rattle.sea_record.specs.Record.{HasAddresses, IsBlock, IsChange, IsOfKind, IsPlaced, blocks}
use Rattle.sea_record.specs.declared.record.Body.{Body}
use Rattle.sea_record.specs.declared.record.Placed.{Placed}

-- A record with this number and this next address may have the body, wherever it stands.
pub record MayGo (commit next : ℕ) (body : Body) : Type 0 where
  pub kind : IsOfKind body.kind commit body
  pub placed : All IsPlaced body.placed
  pub nodes : All IsBlock body.nodes
  pub changes : All IsChange body.changes
  pub addresses : HasAddresses next body
  pub few : blocks body ≤ 1024

-- The block placed behind so many has its sum, this version, and the next address.
pub record IsPlacing (commit before : ℕ) (placed : Placed) : Type 0 where
  pub fits : IsPlaced placed
  pub version : placed.version.0 ≡ commit
  pub at : placed.at.0 ≡ before + 1

-- so many blocks, placed from address 1 on
pub record ArePlaced (commit count : ℕ) (placed : List Placed) : Type 0 where
  pub many : length placed ≡ count
  pub each : (k : ℕ) (d : Placed) → k < length placed
      → IsPlacing commit k (slice_index_or placed k d)
