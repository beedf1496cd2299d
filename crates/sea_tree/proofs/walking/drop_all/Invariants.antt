use Rattle.sea_base.specs.Ghosts.{IsCall}
use Rattle.std.proofs.Common.{◌∷◌, None, ◌≡◌, ℕ, take, map}
use Rattle.sea_base.specs.Space.{Store, Agrees, laid}
use Rattle.sea_tree.specs.Reads.{ReadsListed}
use Rattle.sea_tree.specs.Calls.{IsWalked}
use Rattle.sea_tree.proofs.Walked.{Dropped}
use Rattle.sea_tree.proofs.walking.drop_all.Given as goal

abbrev pub invariant-loop-at : goal.invariant-loop-at
invariant-loop-at g l = record {
  walked : (store : Store) → Agrees store (g.S.Space.seen l.space) → (pairs : ℕ) × IsWalked (laid (g.S.Space.seen l.fn.space) store) l.fn.root.0 pairs (map (λ at. at.0) l.at-items);
  listed : ReadsListed (l.fn.root.0 ∷ map (λ at. at.0) l.at-items) (g.S.Space.seen l.fn.space) (g.S.Space.seen l.space);
  dropped : Dropped (map (λ at. at.0) (take l.at-index l.at-items)) (g.S.Space.seen l.fn.space) (g.S.Space.seen l.space);
  next : (g.S.Space.seen l.space).next ≡ (g.S.Space.seen l.fn.space).next;
  call : IsCall g.S.Space l.fn.space l.space None;
}
