-- What a reader answers, carried on to its caller.
use Rattle.std.proofs.Common.{◌≡◌, ◌≢◌, Option, Some, None, Result, Ok, Err, sym, subst}
use Rattle.std.specs.Result.{IsErrAnd, IfErr}
use Rattle.pool_text.specs.Parsing.{Reads}
use Rattle.pool_text.specs.declared.damage.Damage.{Damage}
use Rattle.pool_text.specs.declared.damage.Damage.TheVariants.{Memory}

-- the same is there under another name
pub reads-same : {A X : Type 0} (seen : A → X) (d : Damage) (found other : Option X) (r : Result A Damage) → found ≡ other → Reads seen d found r → Reads seen d other r
reads-same seen d found other r same reads = subst (λ o. Reads seen d o r) same reads

-- a damage that is handed on
pub reads-refused : {A X : Type 0} (seen : A → X) (d : Damage) (found : Option X) (r : Result A Damage) (e : Damage) → IsErrAnd r (λ f. f ≡ e) → (e ≢ Memory → (e ≡ d) × (found ≡ None)) → Reads seen d found r
reads-refused seen d found (Ok a) e is none = absurd is
reads-refused seen d found (Err f) e is none = subst (λ g. g ≢ Memory → (g ≡ d) × (found ≡ None)) (sym is) none

-- the damage that was found is handed on
pub handed-on : {A : Type 0} (r : Result A Damage) (e : Damage) (found : Option Damage) → IsErrAnd r (λ f. f ≡ e) → (e ≢ Memory → found ≡ Some e) → IfErr r (λ f. f ≢ Memory → found ≡ Some f)
handed-on (Ok a) e found is says = absurd is
handed-on (Err f) e found is says = subst (λ g. g ≢ Memory → found ≡ Some g) (sym is) says
