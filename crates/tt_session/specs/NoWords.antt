-- Why the system gives no words.
use Rattle.std.specs.Prelude.{◌≡◌, ◌≢◌}
use Rattle.std.specs.IoError.{error_kind}
use Rattle.std.specs.declared.io.Error.{Error}
use Rattle.std.specs.declared.io.ErrorKind.TheVariants.{OutOfMemory}
use Rattle.tt_session.specs.declared.status.Refusal.{Refusal}
use Rattle.tt_session.specs.declared.status.Refusal.TheVariants as refusal

-- memory was refused, or one of them is no UTF-8
pub record IsNoWords (error : Error) (why : Refusal) : Type 0 where
  pub no_memory : error_kind error ≡ OutOfMemory → why ≡ refusal.NoMemory
  pub no_text : error_kind error ≢ OutOfMemory → why ≡ refusal.Usage
