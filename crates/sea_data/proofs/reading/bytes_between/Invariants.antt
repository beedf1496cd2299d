use Rattle.std.proofs.Common.{◌≡◌, ◌-◌, ◌*◌, None}
use Rattle.std.specs.Prelude.{min, vec_len}
use Rattle.sea_base.specs.Ghosts.{IsCall}
use Rattle.sea_base.specs.Space.{Store, Agrees, OnlyRead, laid}
use Rattle.sea_data.specs.Bytes.{bytes_from}
use Rattle.sea_data.specs.Ranges.{Touches, ReadsBlocks}
use Rattle.sea_data.proofs.reading.bytes_between.Given as goal

abbrev pub invariant-loop-index : goal.invariant-loop-index
invariant-loop-index g l = record {
  count : vec_len l.bytes ≡ min (4096 * l.index) l.to - l.from;
  bytes : (store : Store) → Agrees store (g.S.Space.seen l.space) → l.bytes.items ≡ bytes_from (laid (g.S.Space.seen l.fn.space) store) l.onode.base.0 l.from (min (4096 * l.index) l.to - l.from);
  within : ReadsBlocks l.onode.base.0 (Touches l.from l.to) (g.S.Space.seen l.fn.space) (g.S.Space.seen l.space);
  reads : OnlyRead (g.S.Space.seen l.fn.space) (g.S.Space.seen l.space);
  call : IsCall g.S.Space l.fn.space l.space None;
}
