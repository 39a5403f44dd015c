use Rattle.std.proofs.Common.{◌≡◌, ◌≢◌, ◌<◌, Bool, false, length, sym, ◌∙◌, subst, arith, length-set, Decides}
use borrow.Author.Tests.{clash}
use Rattle.openings.specs.Membership.{having}
use Rattle.openings.specs.declared.known.KnownGroups.{KnownGroups}
use Rattle.openings.specs.Opening.{Numbered, Meets, again, new, surplus, lacking, Distinct}
use Rattle.openings.specs.KnownNames.{known}
use Rattle.openings.proofs.Knowing.{push_distinct}
use Rattle.openings.proofs.Holding.{known_count, names_more, last_numbered, had, not_had}
use Rattle.openings.proofs.known.KnownGroups.meet.Goals as goal

pub returns-in-Some : goal.returns-in-Some
returns-in-Some g c =
    let at = c.in-Some.ensures in (again (c.in-Some.k, at), at)

pub returns-then-is_full : goal.returns-then-is_full
returns-then-is_full g c place rs = let full = c.is_full.ensures.0 c.if-is_full.true in surplus c.in_default.ensures (omega arith)

-- there is room for one group more
few : (K : KnownGroups) {full : Bool} → Decides full (length (known K) ≡ 32) → full ≡ false → length (known K) < 32
few K told not_full = let ne : length (known K) ≢ 32 = λ e. clash (sym not_full ∙ told.1 e) in omega (arith, known_count K, K.few)

pub returns-then-not-has : goal.returns-then-not-has
returns-then-not-has g c place rs = lacking c.in_default.ensures (few c.args.self.now c.is_full.ensures c.if-is_full.false) (not_had (g.M.Membership.has c.args.members.now) c.args.name.now (sym c.has.ensures ∙ c.if-not-has.true))

pub invariant_of-self : goal.invariant_of-self
invariant_of-self g c =
    let self = c.args.self.now in
    let room = few self c.is_full.ensures c.if-is_full.false in
    let all = names_more self c.unwrap.result c.args.name.now room (rw c.unwrap.ensures at c.new.ensures).0 in
    record {
      few = omega (arith, known_count self, room);
      room = length-set self.names self.count c.unwrap.result ∙ self.room;
      distinct = subst Distinct (sym all) (push_distinct (known self) c.args.name.now c.in_default.ensures self.distinct);
    }

pub returns : goal.returns
returns g c =
    let self = c.args.self.now in
    let name = c.args.name.now in
    let room = few self c.is_full.ensures c.if-is_full.false in
    let all = names_more self c.unwrap.result name room (rw c.unwrap.ensures at c.new.ensures).0 in (
      subst (Meets (having (g.M.Membership.has c.args.members.now)) (known self) name) (sym all) (new c.in_default.ensures room (had (g.M.Membership.has c.args.members.now) c.args.name.now (sym c.has.ensures ∙ c.if-not-has.false))),
      subst (λ gs. Numbered gs name self.count) (sym all) (last_numbered (known self) name self.count (known_count self)),
    )
