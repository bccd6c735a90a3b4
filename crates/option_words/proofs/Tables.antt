-- The options of the two programs, written out: what their commands come to.
use Rattle.std.proofs.Common.{◌≡◌, true, codes, refl, arith}
use Rattle.clap.specs.Faults.{is_simple_and_free}
use Rattle.clap.specs.Simple.{is_simple, with_rule}
use Rattle.job_values.specs.declared.limits.TheConstants.{ADMINS, EXECUTORS}
use Rattle.option_words.specs.declared.limits.TheConstants.{LAST_PORT, LAST_FIRST_PORT, MOST_FAST, MOST_SLOW}
use Rattle.option_words.specs.Options.{bare_app, rule_for}
use Rattle.option_words.specs.Programs.{base_option, token_option, first_port_option, nodes_option, offset_option, fast_option, slow_option, db_option, admin_options, admin_app, port_option, app_option, address_option, admins_option, runners_option, spool_option, executor_options, executor_app}
use Rattle.option_words.proofs.Ready.{IsReady}
use Rattle.option_words.proofs.Values.{number_passes, offset_passes}

pub admin_ready : IsReady admin_app admin_options
unfolding admin_app
admin_ready =
    record {
      rules = refl;
      subs = refl;
      simple = refl;
      bare = refl;
      no_help = refl;
      no_sub = refl;
      found = (record { by_long = refl; by_id = refl; some = omega arith; no_equals = refl }, (record { by_long = refl; by_id = refl; some = omega arith; no_equals = refl }, (record { by_long = refl; by_id = refl; some = omega arith; no_equals = refl }, (record { by_long = refl; by_id = refl; some = omega arith; no_equals = refl }, (record { by_long = refl; by_id = refl; some = omega arith; no_equals = refl }, (record { by_long = refl; by_id = refl; some = omega arith; no_equals = refl }, (record { by_long = refl; by_id = refl; some = omega arith; no_equals = refl }, (record { by_long = refl; by_id = refl; some = omega arith; no_equals = refl }, tt))))))));
      reads = ((λ v. number_passes 1 LAST_FIRST_PORT v (omega arith)), ((λ v. number_passes 1 ADMINS v (omega arith)), (offset_passes, ((λ v. number_passes 1 MOST_FAST v (omega arith)), ((λ v. number_passes 1 MOST_SLOW v (omega arith)), ((λ v _. refl), ((λ v _. refl), ((λ v _. refl), tt))))))));
      apart = (refl, (refl, (refl, (refl, (refl, (refl, (refl, (refl, tt))))))));
      defaults = refl;
      free = refl;
    }

pub admin_free : is_simple_and_free admin_app ≡ true
unfolding admin_app
admin_free = refl

pub admin_simple : is_simple admin_app ≡ true
unfolding admin_app
admin_simple = refl

pub admin_made : with_rule (with_rule (with_rule (with_rule (with_rule (with_rule (with_rule (with_rule (bare_app (codes "xxl_admin")) (rule_for first_port_option)) (rule_for nodes_option)) (rule_for offset_option)) (rule_for fast_option)) (rule_for slow_option)) (rule_for token_option)) (rule_for base_option)) (rule_for db_option) ≡ admin_app
unfolding admin_app
admin_made = refl

pub executor_ready : IsReady executor_app executor_options
unfolding executor_app
executor_ready =
    record {
      rules = refl;
      subs = refl;
      simple = refl;
      bare = refl;
      no_help = refl;
      no_sub = refl;
      found = (record { by_long = refl; by_id = refl; some = omega arith; no_equals = refl }, (record { by_long = refl; by_id = refl; some = omega arith; no_equals = refl }, (record { by_long = refl; by_id = refl; some = omega arith; no_equals = refl }, (record { by_long = refl; by_id = refl; some = omega arith; no_equals = refl }, (record { by_long = refl; by_id = refl; some = omega arith; no_equals = refl }, (record { by_long = refl; by_id = refl; some = omega arith; no_equals = refl }, (record { by_long = refl; by_id = refl; some = omega arith; no_equals = refl }, (record { by_long = refl; by_id = refl; some = omega arith; no_equals = refl }, tt))))))));
      reads = ((λ v. number_passes 1 LAST_PORT v (omega arith)), ((λ v _. refl), ((λ v _. refl), ((λ v _. refl), ((λ v _. refl), ((λ v _. refl), ((λ v. number_passes 1 EXECUTORS v (omega arith)), ((λ v _. refl), tt))))))));
      apart = (refl, (refl, (refl, (refl, (refl, (refl, (refl, (refl, tt))))))));
      defaults = refl;
      free = refl;
    }

pub executor_free : is_simple_and_free executor_app ≡ true
unfolding executor_app
executor_free = refl

pub executor_simple : is_simple executor_app ≡ true
unfolding executor_app
executor_simple = refl

pub executor_made : with_rule (with_rule (with_rule (with_rule (with_rule (with_rule (with_rule (with_rule (bare_app (codes "xxl_executor")) (rule_for port_option)) (rule_for app_option)) (rule_for address_option)) (rule_for admins_option)) (rule_for base_option)) (rule_for token_option)) (rule_for runners_option)) (rule_for spool_option) ≡ executor_app
unfolding executor_app
executor_made = refl
