use Rattle.std.proofs.Common.{◌≡◌, true, sym, subst}
use Rattle.names.specs.Names.{word}
use Rattle.positions.specs.Places.{Has}
use Rattle.name_parts.specs.Slices.{PartAt}
use Rattle.name_parts.specs.Tables.{SameWordAt}
use Rattle.name_parts.proofs.Standing.{word_one}
use Rattle.name_parts.proofs.Holding.{held_words, word_here}
use Rattle.name_parts.proofs.Finding.{found_hit, found_miss, found_all}
use Rattle.name_parts.proofs.name_parts.NameParts.places_of.Goals as goal

pub loop-i-preserved-then-is_same : goal.loop-i-preserved-then-is_same
loop-i-preserved-then-is_same g c ps name =
    let self = c.args.self.now in
    let w = c.args.word.now in
    let Same = g.R.WordRule.same c.args.rule.now in
    let i = c.in-Some.i in
    let bytes = c.bytes_at.result.now in
    let was = c.loop-i.invariant ps name in
    let split = c.in-Some.ensures.steps in
    let has = ((c.common-i-items.ensures i).0 (subst (λ s. Has s.digits i) c.into_iter-i-iterator.ensures (was.among i split.first.here))).1 in
    found_hit (SameWordAt Same ps w) c.into_iter-i-iterator.result.left.digits c.loop-i.i-iterator.left.digits c.loop-i.places.digits was i c.next.new.self.left.digits split c.insert-places.result.digits
    (bytes, word_here self.text.now self.outline self.outlined ps name i bytes c.bytes_at.ensures has, c.is_same.ensures.0 c.if-is_same.true)
    c.insert-places.ensures

pub loop-i-preserved : goal.loop-i-preserved
loop-i-preserved g c ps name =
    let self = c.args.self.now in
    let w = c.args.word.now in
    let Same = g.R.WordRule.same c.args.rule.now in
    let i = c.in-Some.i in
    let bytes = c.bytes_at.result.now in
    let was = c.loop-i.invariant ps name in
    let split = c.in-Some.ensures.steps in
    let has = ((c.common-i-items.ensures i).0 (subst (λ s. Has s.digits i) c.into_iter-i-iterator.ensures (was.among i split.first.here))).1 in
    let here : PartAt ps (word bytes) i = word_here self.text.now self.outline self.outlined ps name i bytes c.bytes_at.ensures has in
    found_miss (SameWordAt Same ps w) c.into_iter-i-iterator.result.left.digits c.loop-i.i-iterator.left.digits c.loop-i.places.digits was i c.next.new.self.left.digits split
    (λ (v, at-it, same). let yes : c.is_same.result ≡ true = c.is_same.ensures.1 (subst (Same w) (word_one ps v bytes i at-it here) same) in cc)

pub returns : goal.returns
returns g c ps name i =
    let self = c.args.self.now in
    let w = c.args.word.now in
    let Same = g.R.WordRule.same c.args.rule.now in
    let gives = c.into_iter-i-iterator.ensures in
    let all = found_all (SameWordAt Same ps w) c.into_iter-i-iterator.result.left.digits c.loop-i.i-iterator.left.digits c.loop-i.places.digits (c.loop-i.invariant ps name) c.in-None.ensures.steps.0 i in (
      λ h. let (a, same) = all.0 h in (((c.common-i-items.ensures i).0 (subst (λ s. Has s.digits i) gives a)).0, same),
      λ (a, same). all.1 (subst (λ s. Has s.digits i) (sym gives) ((c.common-i-items.ensures i).1 (a, (held_words self.text.now self.outline self.outlined ps name i).1 (same.0, same.1))), same),
    )
