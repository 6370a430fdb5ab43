-- The test that two directions are the same.
use Rattle.std.proofs.Common.{◌≡◌, true, eqb, refl, ap, ◌∙◌}
use Rattle.std.proofs.lemmas.Bool.{eq-eqb}
use denote.Enum.Bare.{sameb, same_true}
use denote.Enum.Declared.{tag_of}
use Rattle.outline.specs.contracts.directions.Direction.{the_type}
use Rattle.outline.specs.declared.directions.Direction.{Direction}
use Rattle.outline.specs.declared.directions.Direction.TheVariants as dir
use Rattle.outline.specs.declared.directions.Direction.TheVariants.{Right, Left, Up, Down}
use Rattle.outline.specs.Directions.{code, same}

tag-code : (d : Direction) → tag_of the_type d ≡ code d
tag-code dir.None = refl
tag-code Right = refl
tag-code Left = refl
tag-code Up = refl
tag-code Down = refl

-- the derived test is this one
pub same_is : (a b : Direction) → sameb the_type a b ≡ same a b
same_is a b = ap (λ n. eqb n (tag_of the_type b)) (tag-code a) ∙ ap (eqb (code a)) (tag-code b)

pub same_means : (a b : Direction) → same a b ≡ true → a ≡ b
same_means a b e = same_true the_type tt a b (same_is a b ∙ e)

pub means_same : (a b : Direction) → a ≡ b → same a b ≡ true
means_same a b e = eq-eqb (code a) (code b) (ap code e)
