use Rattle.std.proofs.Common.{List, refl, arith, ap, length, ◌∙◌}
use Rattle.sea_base.specs.declared.delta.Delta.{Delta}
use Rattle.sea_delta.specs.Splices.{after_all}
use Rattle.sea_tree.proofs.Kept.{put_short, keeps_place}
use Rattle.sea_tree.proofs.leaf.Leaf.kept.Goals as goal

pub invariant_of-result : goal.invariant_of-result
invariant_of-result c =
    let told = rw c.in-Some.is at c.in_ok-edit.ensures.some in
    record {
      fits = told.2.fits (omega (arith, told.2.size_is, c.if-size-gt-ROOM_BYTES.false));
      small = omega (arith, put_short c.args.key.now _ c.bytes.ensures.name c.requires, ap length told.2.put_is);
    }

pub returns : goal.returns
returns c = keeps_place _ _ _ _ c.in-Some.edit _ _ (rw c.in-Some.is at c.in_ok-edit.ensures.some) (omega (arith, c.if-size.false)) (omega (arith, c.if-size-gt-ROOM_BYTES.false)) c.new.ensures refl refl refl (rw c.in-Some-2.is at c.in_ok-block.ensures.value ∙ ap (λ (ds : List Delta). after_all ds c.args.self.now.block) c.from_ref.ensures.value)
