pub mod ExchangeLaws
