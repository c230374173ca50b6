-- What the words of a command ask for.
use Rattle.std.proofs.Common.{◌≡◌, ℕ, List, Result, Ok, Err, IfOk, IfErr, refl}
use Rattle.sp_words.specs.Line as words
use Rattle.sp_words.specs.declared.Request as memory
use Rattle.sp_words.specs.declared.RequestError.{RequestError}
use Rattle.sp_words.specs.declared.RequestError.TheVariants.{NoLine}
use Rattle.sp_top.specs.Command.{request_of, IsLine, IsNoLine}

pub asks_this : (line : List (List ℕ)) (r : Result memory.Request RequestError) → IfOk r (λ q. words.IsLine line (words.request_of q)) → IfOk r (λ q. IsLine line (request_of q))
asks_this line (Ok q) h = (words.request_of q, h, refl)
asks_this line (Err e) h = tt

pub asks_nothing : (line : List (List ℕ)) (r : Result memory.Request RequestError) → IfErr r (λ e. e ≡ NoLine → words.IsNoLine line) → IfErr r (λ e. e ≡ NoLine → IsNoLine line)
asks_nothing line (Ok q) h = tt
asks_nothing line (Err e) h = λ is request asks. h is asks.0 asks.1

pub ruleset asks = (asks_this, asks_nothing)
