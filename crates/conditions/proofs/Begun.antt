-- A node to which nothing happened is neither Running nor Completed. Assumes nothing.
use Rattle.std.proofs.Common.{◌≡◌, ℕ, Bool, true, false, List, Some, None, Option, refl, ap, ◌∙◌}
use Rattle.model.specs.declared.Edge.{Edge}
use Rattle.model.specs.declared.Element.{Element}
use Rattle.model.specs.declared.Fact.{Fact}
use Rattle.model.specs.declared.Fact.TheVariants.{Nothing}
use Rattle.model.specs.declared.Signal.{Signal}
use Rattle.model.specs.declared.Signal.TheVariants as signal
use Rattle.model.specs.Signals.{fact_of}
use Rattle.model.specs.States.{state_of}
use Rattle.marking.specs.States.{own_in, free_in, with_signal, state_in}
use Rattle.conditions.specs.Conditions.{is_busy}

idle : (g : Signal) (free : Bool) → is_busy (Some (state_of g Nothing free)) ≡ false
idle signal.True true = refl
idle signal.True false = refl
idle signal.False free = refl
idle signal.None free = refl

module _ (xs : List Element) (es : List Edge) (fs : List Fact) (id : ℕ) where
  by_signal : (o : Option Signal) → is_busy (with_signal o Nothing (free_in xs es fs id)) ≡ false
  by_signal None = refl
  by_signal (Some g) = idle g (free_in xs es fs id)

  pub not_begun : fact_of fs id ≡ Nothing → is_busy (state_in xs es fs id) ≡ false
  not_begun e = ap (λ f. is_busy (with_signal (own_in xs fs id) f (free_in xs es fs id))) e ∙ by_signal (own_in xs fs id)
