-- What a call that makes its own room answers.
use Rattle.std.specs.Prelude.{◌≡◌, Ok, Err, Result}
use Rattle.record_card.specs.declared.refusals.NoCard.{NoCard}
use Rattle.record_card.specs.declared.refusals.NoCard.TheVariants.{Refused, Memory}
use Rattle.record_card.specs.declared.refusals.Refusal.{Refusal}

-- an answer is what the rules give, read by f, unless memory is wanting
abbrev pub Agrees : {X Y : Type 0} → Result X NoCard → (X → Y) → Result Y Refusal → Type 0
Agrees (Ok x) f s = Ok (f x) ≡ s
Agrees (Err (Refused e)) f s = Err e ≡ s
Agrees (Err (Memory m)) f s = Unit {0}
