-- The options that words of the plain form say.
use Rattle.std.proofs.Common.{◌≡◌, ◌∙◌, ◌≤◌, ◌<◌, ◌^◌, ◌==◌, ℕ, ℤ, pos, neg_ℤ, zero, suc, Bool, false, cond, refl, sym, ap, subst, arith, ne_eqb, List, [], ◌∷◌, drop, Option, inl, inr, codes}
use Rattle.std.specs.Prelude.{decimal}
use Rattle.std.specs.List.{slice_split}
use Rattle.std.specs.Str.Parse.{IsNumeral, digits_value, without_leading_plus}
use Rattle.std.proofs.lemmas.Fmt.{decimal_digit, decimal_is_IsNumeral}
use Rattle.std.proofs.lemmas.Int.{ints}
use Rattle.std.proofs.lemmas.Str.Parse.{digit_from_value}
use Rattle.clap.specs.Words.{Text, matches_of}
use Rattle.job_values.specs.declared.limits.TheConstants.{ADMINS, EXECUTORS}
use Rattle.option_words.specs.declared.limits.TheConstants.{LAST_PORT, LAST_FIRST_PORT, MOST_FAST, MOST_SLOW}
use Rattle.option_words.specs.Forms.{Each}
use Rattle.option_words.specs.Options.{CommandOption}
use Rattle.option_words.specs.Plain.{Use, AreUses, IsNumberWord, IsOffsetWord, text_said}
use Rattle.option_words.specs.Programs.{admin_app, admin_options, executor_app, executor_options, base_option, token_option, first_port_option, nodes_option, offset_option, fast_option, slow_option, db_option, port_option, app_option, address_option, admins_option, runners_option, spool_option}
use Rattle.option_words.proofs.Values.{number_reads, minus_reads}
use Rattle.option_words.proofs.Ready.{plain_says}
use Rattle.option_words.proofs.Said.{stands_taken}
use Rattle.option_words.proofs.Tables.{admin_ready, executor_ready}
use Rattle.option_command.specs.Said.{text_in, IsNumber, IsOffset, StandsNumber, StandsOffset, StandsText, StandAddresses, HasTextForm, IsAdmin, IsExecutor}
use Rattle.option_command.specs.declared.forms.TextForm.TheVariants.{Any, App, Address, Base}
use Rattle.option_command.specs.declared.admin.AdminOptions.{AdminOptions}
use Rattle.option_command.specs.declared.executor.ExecutorOptions.{ExecutorOptions}

-- ---- what a text of the plain form writes

no_plus : (t : Text) → IsNumeral 10 t → without_leading_plus t ≡ t
no_plus [] h = absurd (omega (arith, h.0))
no_plus (b ∷ bs) h =
    let digit = digit_from_value b h.1.0 in
    let plus : (b == 43) ≡ false = ne_eqb _ _ (λ e. omega (arith, digit)) in
    ap (λ (y : Bool). drop (cond y 1 0) (b ∷ bs)) plus

number_is : (least greatest : ℕ) (t : Text) → greatest < 2 ^ 63 → IsNumberWord least greatest t → (n : ℕ) × IsNumber least greatest t n
number_is least greatest t fits h =
    let n : ℕ = h.0 in
    let from : least ≤ n = h.1 in
    let to : n ≤ greatest = h.2 in
    let is = decimal_is_IsNumeral n (omega arith) in
    let bare : without_leading_plus t ≡ decimal n = ap without_leading_plus h.3 ∙ no_plus (decimal n) is.0 in
    (n, (subst (IsNumeral 10) (sym bare) is.0, sym (ap (digits_value 10) bare ∙ is.1), from, to))

before : (n : ℕ) → n ≤ 64800 → IsOffset (45 ∷ decimal n) (neg_ℤ (pos n))
before zero most = let r = minus_reads 0 (omega arith) in (r.numeral, sym r.value, omega (arith, ints), omega (arith, ints))
before (suc k) most = let r = minus_reads (suc k) (omega arith) in (r.numeral, sym r.value, omega (arith, ints), omega (arith, ints))

after : (n : ℕ) → n ≤ 64800 → IsOffset (decimal n) (pos n)
after n most = let r = number_reads n (omega arith) in (r.numeral, sym r.value, omega (arith, ints), omega (arith, ints))

offset_is : (t : Text) → IsOffsetWord t → (z : ℤ) × IsOffset t z
offset_is t h = elim h.2 [
  | inl is ↦ (pos h.0, subst (λ (u : Text). IsOffset u (pos h.0)) (sym is) (after h.0 h.1))
  | inr is ↦ (neg_ℤ (pos h.0), subst (λ (u : Text). IsOffset u (neg_ℤ (pos h.0))) (sym is) (before h.0 h.1))
]

-- ---- the same texts for each option

module _ (f g : CommandOption → Option Text) where
  pub admin_moves : Each (λ o. f o ≡ g o) admin_options → (o : AdminOptions) → IsAdmin f o → IsAdmin g o
  admin_moves (port, (nodes, (offset, (fast, (slow, (token, (base, (db, rest)))))))) o is = record {
    port = subst (λ t. StandsNumber 1 LAST_FIRST_PORT t o.port) port is.port;
    nodes = subst (λ t. StandsNumber 1 ADMINS t o.nodes) nodes is.nodes;
    offset = subst (λ t. StandsOffset t o.offset) offset is.offset;
    fast = subst (λ t. StandsNumber 1 MOST_FAST t o.fast) fast is.fast;
    slow = subst (λ t. StandsNumber 1 MOST_SLOW t o.slow) slow is.slow;
    token = subst (λ t. StandsText (HasTextForm Any) t o.token) token is.token;
    base = subst (λ t. StandsText (HasTextForm Base) t o.base) base is.base;
    db = sym db ∙ is.db;
  }

  pub executor_moves : Each (λ o. f o ≡ g o) executor_options → (o : ExecutorOptions) → IsExecutor f o → IsExecutor g o
  executor_moves (port, (app, (address, (admins, (base, (token, (runners, (spool, rest)))))))) o is = record {
    port = subst (λ t. StandsNumber 1 LAST_PORT t o.port) port is.port;
    app = subst (λ t. StandsText (HasTextForm App) t o.app) app is.app;
    address = subst (λ t. StandsText (HasTextForm Address) t o.address) address is.address;
    admins = subst (λ t. StandAddresses t o.admins) admins is.admins;
    base = subst (λ t. StandsText (HasTextForm Base) t o.base) base is.base;
    token = subst (λ t. StandsText (HasTextForm Any) t o.token) token is.token;
    runners = subst (λ t. StandsNumber 1 EXECUTORS t o.runners) runners is.runners;
    spool = subst (λ t. StandsText (HasTextForm Any) t o.spool) spool is.spool;
  }

-- ---- the options that the uses say

module _ (uses : List Use) (words : List Text) where
  admin_some : AreUses admin_options uses words → (o : AdminOptions) × IsAdmin (text_said uses) o
  admin_some plain =
      let stands = stands_taken admin_options uses words plain in
      let port = stands first_port_option refl (inl refl) in
      let nodes = stands nodes_option refl (inr (codes "2", refl, (2, omega arith, omega arith, sym (decimal_digit 2 (omega arith))))) in
      let offset = stands offset_option refl (inr (codes "0", refl, (0, omega arith, inl (sym (decimal_digit 0 (omega arith)))))) in
      let fast = stands fast_option refl (inr (codes "8", refl, (8, omega arith, omega arith, sym (decimal_digit 8 (omega arith))))) in
      let slow = stands slow_option refl (inr (codes "4", refl, (4, omega arith, omega arith, sym (decimal_digit 4 (omega arith))))) in
      let token = stands token_option refl (inr ([], refl, tt)) in
      let base = stands base_option refl (inr (codes "/xxl-job-admin/api/", refl, (refl, refl))) in
      let port_n = number_is 1 LAST_FIRST_PORT port.0 (omega arith) port.2 in
      let nodes_n = number_is 1 ADMINS nodes.0 (omega arith) nodes.2 in
      let offset_n = offset_is offset.0 offset.2 in
      let fast_n = number_is 1 MOST_FAST fast.0 (omega arith) fast.2 in
      let slow_n = number_is 1 MOST_SLOW slow.0 (omega arith) slow.2 in (
        record { port = port_n.0; nodes = nodes_n.0; offset = offset_n.0; fast = fast_n.0; slow = slow_n.0; token = token.0; base = base.0; db = text_said uses db_option },
        record {
          port = (port.0, port.1, port_n.1);
          nodes = (nodes.0, nodes.1, nodes_n.1);
          offset = (offset.0, offset.1, offset_n.1);
          fast = (fast.0, fast.1, fast_n.1);
          slow = (slow.0, slow.1, slow_n.1);
          token = (token.1, tt);
          base = (base.1, base.2);
          db = refl;
        },
      )

  executor_some : AreUses executor_options uses words → (o : ExecutorOptions) × IsExecutor (text_said uses) o
  executor_some plain =
      let stands = stands_taken executor_options uses words plain in
      let port = stands port_option refl (inl refl) in
      let app = stands app_option refl (inl refl) in
      let address = stands address_option refl (inl refl) in
      let admins = stands admins_option refl (inl refl) in
      let base = stands base_option refl (inr (codes "/xxl-job-admin/api/", refl, (refl, refl))) in
      let token = stands token_option refl (inr ([], refl, tt)) in
      let runners = stands runners_option refl (inr (codes "4", refl, (4, omega arith, omega arith, sym (decimal_digit 4 (omega arith))))) in
      let spool = stands spool_option refl (inl refl) in
      let port_n = number_is 1 LAST_PORT port.0 (omega arith) port.2 in
      let runners_n = number_is 1 EXECUTORS runners.0 (omega arith) runners.2 in (
        record { port = port_n.0; app = app.0; address = address.0; admins = slice_split (λ b. b == 44) admins.0; base = base.0; token = token.0; runners = runners_n.0; spool = spool.0 },
        record {
          port = (port.0, port.1, port_n.1);
          app = (app.1, app.2);
          address = (address.1, address.2);
          admins = (admins.0, admins.1, refl, admins.2);
          base = (base.1, base.2);
          token = (token.1, tt);
          runners = (runners.0, runners.1, runners_n.1);
          spool = (spool.1, tt);
        },
      )

  -- the texts that stand are those that the uses say
  admin_stand : AreUses admin_options uses words → Each (λ o. text_in (matches_of admin_app words) o ≡ text_said uses o) admin_options
  admin_stand plain =
      let says = plain_says admin_app admin_options admin_ready uses words plain in
      (says _ refl, (says _ refl, (says _ refl, (says _ refl, (says _ refl, (says _ refl, (says _ refl, (says _ refl, tt))))))))

  executor_stand : AreUses executor_options uses words → Each (λ o. text_in (matches_of executor_app words) o ≡ text_said uses o) executor_options
  executor_stand plain =
      let says = plain_says executor_app executor_options executor_ready uses words plain in
      (says _ refl, (says _ refl, (says _ refl, (says _ refl, (says _ refl, (says _ refl, (says _ refl, (says _ refl, tt))))))))

  each_back : (f g : CommandOption → Option Text) (options : List CommandOption) → Each (λ o. f o ≡ g o) options → Each (λ o. g o ≡ f o) options
  each_back f g [] h = tt
  each_back f g (o ∷ os) h = (sym h.0, each_back f g os h.1)

  pub admin_says : AreUses admin_options uses words → (o : AdminOptions) → IsAdmin (text_in (matches_of admin_app words)) o → IsAdmin (text_said uses) o
  admin_says plain = admin_moves (text_in (matches_of admin_app words)) (text_said uses) (admin_stand plain)

  pub admin_there : AreUses admin_options uses words → (o : AdminOptions) × IsAdmin (text_in (matches_of admin_app words)) o
  admin_there plain =
      let some = admin_some plain in
      (some.0, admin_moves (text_said uses) (text_in (matches_of admin_app words)) (each_back (text_in (matches_of admin_app words)) (text_said uses) admin_options (admin_stand plain)) some.0 some.1)

  pub executor_says : AreUses executor_options uses words → (o : ExecutorOptions) → IsExecutor (text_in (matches_of executor_app words)) o → IsExecutor (text_said uses) o
  executor_says plain = executor_moves (text_in (matches_of executor_app words)) (text_said uses) (executor_stand plain)

  pub executor_there : AreUses executor_options uses words → (o : ExecutorOptions) × IsExecutor (text_in (matches_of executor_app words)) o
  executor_there plain =
      let some = executor_some plain in
      (some.0, executor_moves (text_said uses) (text_in (matches_of executor_app words)) (each_back (text_in (matches_of executor_app words)) (text_said uses) executor_options (executor_stand plain)) some.0 some.1)
