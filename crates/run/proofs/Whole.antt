-- The whole reply to a text stands at the head of a slice of 8,192 bytes. Assumes nothing.
use mathlib.Core.List.{List}
use mathlib.Core.Path.{◌≡◌}
use Prim.Native.Nat.{ℕ, ◌≤◌}
use native.Mathlib.Omega.{arith}
use lib.Ieee.{Float}
use lib.ListN.{length, take}
use Rattle.std.specs.Prelude.{Result, Ok, Err}
use Rattle.reply.proofs.Short.{short}
use Rattle.reply.proofs.Written.{written-first}
use Rattle.sketch.specs.declared.Build.{Build}
use Rattle.sketch.specs.declared.Ending.{Ending}
use Rattle.text.specs.Reader.{read_of}
use Rattle.run.specs.Promise.{Runs, reply_build, reply_by, reply_to}

reply-short : (p q r : List Float) (t : Result Build Ending) → length (reply_by p q r t) ≤ 8192
unfolding reply_build
reply-short p q r (Ok b) = short _ _ _ _
reply-short p q r (Err e) = short _ _ _ _

module _ (s reply : List ℕ) (p q r : List Float) (reply' : List ℕ) (p' q' r' : List Float) (n : ℕ) (ran : Runs s reply p q r reply' p' q' r' n) (room : 8192 ≤ length reply) where
  pub fits : n ≤ length reply
  fits =
      let k : length (reply_to p q r s) ≤ 8192 = reply-short p q r (read_of s) in
      let m : n ≡ length (reply_to p q r s) = ran.needed in
      omega arith

  pub written : take n reply' ≡ reply_to p q r s
  written = rw ran.written (written-first (reply_to p q r s) reply n ran.needed fits)
