use Rattle.std.proofs.Common.{◌≡◌, ℕ, ◌≤◌, Some, refl, ap, ◌∙◌, subst, arith}
use Rattle.lists.specs.Lexemes.{sign}
use Rattle.lists.specs.Placed.{Walks}
use Rattle.matching.specs.Judging.{Judges}
use Rattle.openings.proofs.Walking.{walked}
use Rattle.matching.proofs.Walking.{an_atom, courses_start, courses_atom, courses_group, courses_star, courses_bar, courses_bracket, courses_close, courses_end}
use Rattle.matching.proofs.judge.Judge.+judge.Goals as goal
use Rattle.matching.proofs.judge.Judge.+judge.Given.{Over}
use Rattle.matching.proofs.judge.Judge.+judge.Goals.{In-Some}

pub loop-lexeme-init : goal.loop-lexeme-init
loop-lexeme-init g t c =
    let tokens = c.args.tokens.now in
    let begun = c.new-reading.ensures in
    (tt, tt, refl, omega arith, courses_start g.R.WordRule.same c.args.self.now tokens.text.now tokens.at c.args.starts.count c.new-reading.result begun)

-- the token that has been passed
walks : (g : Over) (t : ℕ) (c : In-Some g t) → Walks c.args.tokens.now.text.now c.loop-lexeme.tokens.at (Some c.in-Some.lexeme) c.next.new.self.text.now c.next.new.self.at
walks g t c = walked c.loop-lexeme.invariant.2 c.in-Some.ensures.steps

-- where the walk stands then
moved : (g : Over) (t : ℕ) (c : In-Some g t) → (c.next.new.self.text.now ≡ c.args.tokens.now.text.now) × (c.args.tokens.now.at ≤ c.next.new.self.at)
moved g t c = ((walks g t c).kept, omega (arith, c.loop-lexeme.invariant.3, (walks g t c).onward))

-- the walk goes on from there, with what the reading holds then
goes_on : (g : Over) (t : ℕ) (c : In-Some g t) {Held : Type 0} → Held → Unit {0} × Unit {0} × (c.next.new.self.text.now ≡ c.args.tokens.now.text.now) × (c.args.tokens.now.at ≤ c.next.new.self.at) × Held
goes_on g t c held = (tt, tt, (moved g t c).0, (moved g t c).1, held)

pub loop-lexeme-preserved-in-Open : goal.loop-lexeme-preserved-in-Open
loop-lexeme-preserved-in-Open g t c =
    let some = (goal.at.loop-lexeme-preserved-in-Open g t c).In-Some in
    let walks = walks g t some in
    let judged = c.judge.ensures in
    let inside = subst (λ text. Judges g.R.WordRule.same c.args.self.now text c.next.new.self.at c.judge.new.tokens.at c.places.result.count c.judge.result) walks.kept judged.judged in (
      tt,
      tt,
      judged.kept ∙ walks.kept,
      omega (arith, (moved g t some).1, judged.onward),
      courses_bracket c.loop-lexeme.invariant.4 walks c.places.result.count c.judge.new.tokens.at c.judge.result c.push.new.self (ap sign c.in-Open.is) c.places.ensures inside c.push.ensures,
    )

pub returns-in-Close-clause-judged : goal.returns-in-Close-clause-judged
returns-in-Close-clause-judged g t c =
    let some = (goal.at.returns-in-Close-clause-judged g t c).In-Some in
    courses_close c.loop-lexeme.invariant.4 (walks g t some) c.finish.result (ap sign c.in-Close.is) c.finish.ensures

pub loop-lexeme-preserved-in-Star : goal.loop-lexeme-preserved-in-Star
loop-lexeme-preserved-in-Star g t c =
    let some = (goal.at.loop-lexeme-preserved-in-Star g t c).In-Some in
    goes_on g t some (courses_star c.loop-lexeme.invariant.4 (walks g t some) c.places-in-Star.result.count c.star.new.self (ap sign c.in-Star.is) c.places-in-Star.ensures c.star.ensures)

pub loop-lexeme-preserved-in-Bar : goal.loop-lexeme-preserved-in-Bar
loop-lexeme-preserved-in-Bar g t c =
    let some = (goal.at.loop-lexeme-preserved-in-Bar g t c).In-Some in
    goes_on g t some (courses_bar c.loop-lexeme.invariant.4 (walks g t some) c.bar.new.self (ap sign c.in-Bar.is) c.bar.ensures)

pub loop-lexeme-preserved-in-Group : goal.loop-lexeme-preserved-in-Group
loop-lexeme-preserved-in-Group g t c =
    let some = (goal.at.loop-lexeme-preserved-in-Group g t c).In-Some in
    goes_on g t some (courses_group c.loop-lexeme.invariant.4 (walks g t some) c.in-Group.name.now c.group.result c.push-in-Group.new.self (ap sign c.in-Group.is) c.group.ensures c.push-in-Group.ensures)

pub loop-lexeme-preserved : goal.loop-lexeme-preserved
loop-lexeme-preserved g t c =
    let some = (goal.at.loop-lexeme-preserved g t c).In-Some in
    let other = c.in_default-token in
    let (a, is-atom) = an_atom c.in-Some.lexeme.token other.not-Open other.not-Close other.not-Star other.not-Bar other.not-Group in
    goes_on g t some (courses_atom c.loop-lexeme.invariant.4 (walks g t some) a c.atom.result c.push-in_default-token.new.self is-atom (λ ps is. c.atom.ensures ps is a is-atom) c.push-in_default-token.ensures)

pub returns-clause-judged : goal.returns-clause-judged
returns-clause-judged g t c = courses_end c.loop-lexeme.invariant.4 c.finish-2.result (walked c.loop-lexeme.invariant.2 c.in_default.ensures.steps) c.finish-2.ensures
