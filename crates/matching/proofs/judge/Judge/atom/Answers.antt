use Rattle.std.proofs.Common.{◌≡◌, sym, refl, subst}
use Rattle.names.specs.Names.{dot, at, plus}
use Rattle.lists.specs.Trees
use Rattle.lists.specs.Trees.{Atom, atom}
use Rattle.lists.specs.declared.token.Token.{Token}
use Rattle.lists.specs.Lexemes.{sign}
use Rattle.derivations.specs.Derives.{AtomDerives}
use Rattle.matching.specs.declared.step.Step.TheVariants.{Part as Place, Runs as Each}
use Rattle.matching.specs.Judging.{StepMeans}
use Rattle.matching.proofs.Spanning.{span_atom_dot, span_atom_at, span_atom_plus}
use Rattle.matching.proofs.Atoms.{part_means, word_means, any_means}
use Rattle.matching.proofs.judge.Judge.atom.Goals as goal

-- the atom that a token is
the_atom : (token known : Token) (a b : Atom) → token ≡ known → sign known ≡ atom b → sign token ≡ atom a → b ≡ a
the_atom token known a b e f h = let f' : sign token ≡ atom b = subst (λ t. sign t ≡ atom b) (sym e) f in cc

pub returns-in-Word : goal.returns-in-Word
returns-in-Word g c ps is a e =
    let w = c.in-Word.bytes.now in
    subst (λ b. StepMeans ps (AtomDerives (g.R.WordRule.same c.args.self.now.rule.now) b) (Place c.places_of.result)) (the_atom _ _ a (Trees.word w) c.in-Word.is refl e)
    (word_means ps w c.places_of.result c.everywhere.result is.few (c.everywhere.ensures ps is) (c.places_of.ensures ps is))

pub returns-in-Dot : goal.returns-in-Dot
returns-in-Dot g c ps is a e = subst (λ b. StepMeans ps (AtomDerives (g.R.WordRule.same c.args.self.now.rule.now) b) (Place c.marks.result)) (the_atom _ _ a Trees.dot c.in-Dot.is refl e) (part_means ps dot c.marks.result is.few (c.marks.ensures ps is) (λ i j. span_atom_dot))

pub returns-in-At : goal.returns-in-At
returns-in-At g c ps is a e = subst (λ b. StepMeans ps (AtomDerives (g.R.WordRule.same c.args.self.now.rule.now) b) (Place c.marks-in-At.result)) (the_atom _ _ a Trees.at c.in-At.is refl e) (part_means ps at c.marks-in-At.result is.few (c.marks-in-At.ensures ps is) (λ i j. span_atom_at))

pub returns-in-Plus : goal.returns-in-Plus
returns-in-Plus g c ps is a e = subst (λ b. StepMeans ps (AtomDerives (g.R.WordRule.same c.args.self.now.rule.now) b) (Place c.marks-in-Plus.result)) (the_atom _ _ a Trees.plus c.in-Plus.is refl e) (part_means ps plus c.marks-in-Plus.result is.few (c.marks-in-Plus.ensures ps is) (λ i j. span_atom_plus))

pub returns-in-Any : goal.returns-in-Any
returns-in-Any g c ps is a e = subst (λ b. StepMeans ps (AtomDerives (g.R.WordRule.same c.args.self.now.rule.now) b) (Each c.partial_names.result.now)) (the_atom _ _ a Trees.any c.in-Any.is refl e) (any_means ps c.partial_names.result.now (c.partial_names.ensures ps is).counted (c.partial_names.ensures ps is).ends)
