-- 24, test by test.
use Prim.Native.Nat.{ℕ, ◌≤◌, ◌<◌}
use mathlib.Core.Path.{◌≡◌, refl, sym}
use mathlib.Core.Logic.{◌≢◌}
use mathlib.Core.Bool.{true, false}
use mathlib.Core.List.{List}
use lib.ListN.{length}
use lib.Dec.{ltb}
use borrow.Author.Tests.{eq-eqb, ne_eqb, lt-ltb, le-ltb}
use Rattle.files.specs.Lists.{is_in}
use Rattle.exercises.specs.Rig.{trimmed, no_rig}

module _ (a b : ℕ) (ws : List ℕ) where
  pub no_first_lem : a ≡ 0 → true ≡ no_rig a b ws
  unfolding no_rig
  no_first_lem e = sym (rw (eq-eqb a 0 e) refl)

  module _ (n1 : a ≢ 0) where
    pub no_second : b ≡ 0 → true ≡ no_rig a b ws
    unfolding no_rig
    no_second e = sym (rw (ne_eqb a 0 n1, eq-eqb b 0 e) refl)

    module _ (n2 : b ≢ 0) where
      pub no_other : a ≡ b → true ≡ no_rig a b ws
      unfolding no_rig
      no_other e = sym (rw (ne_eqb a 0 n1, ne_eqb b 0 n2, eq-eqb a b e) refl)

      module _ (n3 : a ≢ b) where
        pub no_word : is_in a ws ≡ true → true ≡ no_rig a b ws
        unfolding no_rig
        no_word e = sym (rw (ne_eqb a 0 n1, ne_eqb b 0 n2, ne_eqb a b n3, e) refl)

        module _ (n4 : is_in a ws ≡ false) where
          pub no_word_2 : is_in b ws ≡ true → true ≡ no_rig a b ws
          unfolding no_rig
          no_word_2 e = sym (rw (ne_eqb a 0 n1, ne_eqb b 0 n2, ne_eqb a b n3, n4, e) refl)

          module _ (n5 : is_in b ws ≡ false) where
            pub no_route_indexes : 65535 < length ws → true ≡ no_rig a b ws
            unfolding no_rig
            no_route_indexes h = sym (rw (ne_eqb a 0 n1, ne_eqb b 0 n2, ne_eqb a b n3, n4, n5, lt-ltb 65535 (length ws) h) refl)

            pub no_phys : (t : ℕ) → length ws ≤ 65535 → t ≡ length (trimmed ws) → ltb 127 t ≡ no_rig a b ws
            unfolding no_rig
            no_phys t h e = sym (rw (ne_eqb a 0 n1, ne_eqb b 0 n2, ne_eqb a b n3, n4, n5, le-ltb 65535 (length ws) h, e) refl)
