-- The options of the two node programs.
use Rattle.std.specs.Prelude.{true, false, List, [], ◌∷◌, Some, None, codes}
use Rattle.job_values.specs.declared.limits.TheConstants.{ADMINS, EXECUTORS}
use Rattle.clap.specs.Words.{App}
use Rattle.option_words.specs.declared.limits.TheConstants.{LAST_PORT, LAST_FIRST_PORT, MOST_FAST, MOST_SLOW}
use Rattle.option_words.specs.Options.{CommandOption, number, offset, text, app, address, addresses, base, app_for}

-- ---- of both programs

-- the base of an admin's paths
abbrev pub base_option : CommandOption
base_option = record { name = codes "base"; takes = base; required = false; default = Some (codes "/xxl-job-admin/api/") }

-- the token of calls, where there is one
abbrev pub token_option : CommandOption
token_option = record { name = codes "token"; takes = text; required = false; default = Some [] }

-- ---- xxl_admin

-- the port of the first node; each further node has the next one
abbrev pub first_port_option : CommandOption
first_port_option = record { name = codes "port"; takes = number 1 LAST_FIRST_PORT; required = true; default = None }

-- how many nodes there are
abbrev pub nodes_option : CommandOption
nodes_option = record { name = codes "nodes"; takes = number 1 ADMINS; required = false; default = Some (codes "2") }

-- how far the civil clock is from UTC, in seconds
abbrev pub offset_option : CommandOption
offset_option = record { name = codes "offset"; takes = offset; required = false; default = Some (codes "0") }

-- how many threads the fast pool of a node has, and its slow one
abbrev pub fast_option : CommandOption
fast_option = record { name = codes "fast"; takes = number 1 MOST_FAST; required = false; default = Some (codes "8") }

abbrev pub slow_option : CommandOption
slow_option = record { name = codes "slow"; takes = number 1 MOST_SLOW; required = false; default = Some (codes "4") }

-- the file of the database; without it the database is in memory
abbrev pub db_option : CommandOption
db_option = record { name = codes "db"; takes = text; required = false; default = None }

abbrev pub admin_options : List CommandOption
admin_options =
    first_port_option ∷ (nodes_option ∷ (offset_option ∷ (fast_option ∷ (slow_option ∷ (token_option ∷ (base_option ∷ (db_option ∷ [])))))))

unfoldable pub admin_app : App
admin_app = app_for (codes "xxl_admin") admin_options

-- ---- xxl_executor

-- the port on which it is asked
abbrev pub port_option : CommandOption
port_option = record { name = codes "port"; takes = number 1 LAST_PORT; required = true; default = None }

-- the name under which it registers
abbrev pub app_option : CommandOption
app_option = record { name = codes "app"; takes = app; required = true; default = None }

-- the address that it registers
abbrev pub address_option : CommandOption
address_option = record { name = codes "address"; takes = address; required = true; default = None }

-- the addresses of the admins
abbrev pub admins_option : CommandOption
admins_option = record { name = codes "admins"; takes = addresses; required = true; default = None }

-- how many runs go at once
abbrev pub runners_option : CommandOption
runners_option = record { name = codes "runners"; takes = number 1 EXECUTORS; required = false; default = Some (codes "4") }

-- the file of the results that could not be sent
abbrev pub spool_option : CommandOption
spool_option = record { name = codes "spool"; takes = text; required = true; default = None }

abbrev pub executor_options : List CommandOption
executor_options =
    port_option ∷ (app_option ∷ (address_option ∷ (admins_option ∷ (base_option ∷ (token_option ∷ (runners_option ∷ (spool_option ∷ [])))))))

unfoldable pub executor_app : App
executor_app = app_for (codes "xxl_executor") executor_options
