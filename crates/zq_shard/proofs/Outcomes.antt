-- A fact for one outcome of a call, from others for it.

use Rattle.std.proofs.Common.{Err, Ok, Result}
use Rattle.std.specs.Prelude.{IfOk, OnErr, OnOk}

pub ok_map : {X E P Q : Type 0} (r : Result X E) → OnOk r P → (P → Q) → OnOk r Q
ok_map (Ok x) p f = f p
ok_map (Err e) p f = tt {0}

pub ok_map₂ : {X E P Q S : Type 0} (r : Result X E) → OnOk r P → OnOk r Q → (P → Q → S) → OnOk r S
ok_map₂ (Ok x) p q f = f p q
ok_map₂ (Err e) p q f = tt {0}

pub err_map₂ : {X E P Q S : Type 0} (r : Result X E) → OnErr r P → OnErr r Q → (P → Q → S) → OnErr r S
err_map₂ (Ok x) p q f = tt {0}
err_map₂ (Err e) p q f = f p q

pub err_map : {X E P Q : Type 0} (r : Result X E) → OnErr r P → (P → Q) → OnErr r Q
err_map (Ok x) p f = tt {0}
err_map (Err e) p f = f p

pub if_ok_map : {X E : Type 0} {P Q : X → Type 0} (r : Result X E) → IfOk r P → ((x : X) → P x → Q x) → IfOk r Q
if_ok_map (Ok x) p f = f x p
if_ok_map (Err e) p f = tt {0}

-- what either outcome gives
pub either : {X E P Q S : Type 0} (r : Result X E) → OnOk r P → OnErr r Q → (P → S) → (Q → S) → S
either (Ok x) p q f g = f p
either (Err e) p q f g = g q
